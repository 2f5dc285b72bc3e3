-- The scheduler's states up to tick H: each unfinished job is known and within its bound, so whatever response is written is
-- from 1 to the bound. Assumes nothing.
use Rattle.std.specs.Prelude.{◌≡◌, refl, ◌⊎◌, get_or, take}
use Rattle.std.proofs.Math.Path.{sym, ap}
use Rattle.std.proofs.Common.{◌∙◌, length-take, get_or-take}
use Rattle.std.proofs.Math.Logic.{inl, inr, ⊎_elim}
use mathlib.Core.List.{List}
use Prim.Native.Nat.{ℕ, suc, ◌+◌, ◌-◌, ◌<◌}
use Rattle.std.proofs.Math.Nat.{le_refl, zero-add}
use native.Mathlib.Omega.{arith}
use Rattle.std.proofs.Math.ListN.{length, length-set, length-replicate, get_or-eq_default}
use Rattle.std.proofs.Math.Seq.{get_or-set_same, get_or-set_other}
use Rattle.paper.specs.Board.{Board}
use Rattle.paper.specs.Releases.{Release, units_of}
use Rattle.paper.specs.Scheduler.{State, fresh, started, answered, worked, after}
use Rattle.paper.proofs.Laws.Tests.{on_zero, on_le, on_same, on_eqb}
use Rattle.paper.specs.Laws.Reading.{In}
use Rattle.paper.specs.Laws.Ranges.{BoardIn, no_release}
use Rattle.paper.specs.Laws.Legal.{nth, Listed}
use Rattle.paper.proofs.Laws.Legal.{listed_once}
use Rattle.paper.proofs.Laws.Flow.{renewed_none, follows}
use Rattle.paper.specs.Laws.Released.{released, remains, Goes}
use Rattle.paper.proofs.Laws.Released.{entry, released_some}
use Rattle.paper.specs.Laws.Served.{left_of, since_of, job_of, response_of}
use Rattle.paper.proofs.Laws.Served.{work_keeps}
use Rattle.paper.specs.Laws.Steps.{Holds, Steps, place_of}
use Rattle.paper.proofs.Laws.Steps.{run_keeps}
use Rattle.paper.specs.Laws.Bridge.{Lefts}
use Rattle.paper.proofs.Laws.Bridge.{fit, lefts, lefts_fresh, lefts_between}
use Rattle.promises.specs.Horizon.{bound, PromptBefore}
use Rattle.promises.proofs.Horizon.{bound_some}
use Rattle.promises.specs.Sound.{Running, Pending, Sound, Going}

module _ (b : Board) (l : List Release) (a : ℕ) where
  -- a release of another tick
  sound_skip : (n : ℕ) (x : State) → ((nth l n).at ≡ a → ⊥) → Sound b l a n x → Sound b l a (suc n) x
  sound_skip n x d S = record {
    sinces = S.sinces;
    jobs = S.jobs;
    places = S.places;
    running = S.running;
    told = λ p m.
        S.told p
        (record {
          listed = m.listed;
          by = m.by;
          before = λ e. on_same p n (λ f. absurd (d (ap (λ y. (nth l y).at) (sym f) ∙ e))) (λ f. omega (arith, m.before e));
        });
  }

  -- a release of this tick, to place k
  sound_start : (n k u : ℕ) (x : State) → Goes l n a k → k < 96 → length x.left ≡ 96 → left_of x k ≡ 0 → 0 < u → 0 < bound b l n
      → Sound b l a n x → Sound b l a (suc n) (started x k u n a)
  unfolding started
  sound_start n k u x g w s z pos r S = record {
    sinces = simp length-set S.sinces;
    jobs = simp length-set S.jobs;
    places = S.places;
    running = λ j.
        on_same j k
        (λ e h.
        rw (e, get_or-set_same x.job k n 0 (omega (arith, S.jobs)), get_or-set_same x.since k a 0 (omega (arith, S.sinces)))
        (record { goes = g; begun = le_refl a; in_time = omega arith }))
        (λ d h.
        rw (get_or-set_other x.job k j n 0 d, get_or-set_other x.since k j a 0 d)
        (S.running j (rw (get_or-set_other x.left k j u 0 d) at h)));
    told = λ p m.
        on_same p n
        (λ e.
        let f : place_of l p ≡ k = omega (arith, ap (λ y. (nth l y).task) e, g.task) in
        inl
        (rw f
        (record {
          unfinished = rw (get_or-set_same x.left k u 0 (omega arith)) pos;
          job = get_or-set_same x.job k n 0 (omega (arith, S.jobs)) ∙ sym e;
        })))
        (λ d.
        ⊎_elim
        (λ w.
        let j = place_of l p in
        let o : j ≡ k → ⊥ = λ e. omega (arith, w.unfinished, ap (left_of x) e, z) in
        inl
        (record {
          unfinished = rw (get_or-set_other x.left k j u 0 o) w.unfinished;
          job = get_or-set_other x.job k j n 0 o ∙ w.job;
        }))
        (λ w. inr w)
        (S.told p (record { listed = m.listed; by = m.by; before = λ e. omega (arith, m.before e) })));
  }

  -- the responses when place k, which runs a job within its bound, has u left
  module _ (k u : ℕ) (x : State) (fits : length x.responses ≡ length l) (r : Running b l a k (job_of x k) (since_of x k)) where
    -- one that completes now
    now : In 1 (bound b l (job_of x k)) (a + 1 - since_of x k)
    now = record { low = omega (arith, r.begun); high = omega (arith, r.in_time) }

    answered-length : length (answered x k u a) ≡ length l
    unfolding answered
    answered-length = on_eqb (λ (v : List ℕ). length v ≡ length l) u 0 _ _ (λ e. simp length-set fits) (λ d. fits)

    -- its own
    answered-own : u ≡ 0 → In 1 (bound b l (job_of x k)) (get_or (answered x k u a) (job_of x k) 0)
    unfolding answered
    answered-own z =
        on_eqb (λ (v : List ℕ). In 1 (bound b l (job_of x k)) (get_or v (job_of x k) 0)) u 0 _ _
        (λ e. rw (get_or-set_same x.responses (job_of x k) (a + 1 - since_of x k) 0 (omega (arith, r.goes.listed))) now)
        (λ d. absurd (d z))

    -- the others
    answered_keeps : (p : ℕ) → In 1 (bound b l p) (response_of x p) → In 1 (bound b l p) (get_or (answered x k u a) p 0)
    unfolding answered
    answered_keeps p w =
        on_same p (job_of x k)
        (λ e. on_zero u (λ z. rw e (answered-own z)) (λ s. on_eqb (λ (v : List ℕ). In 1 (bound b l p) (get_or v p 0)) u 0 _ _ (λ z. absurd (omega arith)) (λ d. w)))
        (λ d.
        on_eqb (λ (v : List ℕ). In 1 (bound b l p) (get_or v p 0)) u 0 _ _
        (λ z. rw (get_or-set_other x.responses (job_of x k) p (a + 1 - since_of x k) 0 d) w)
        (λ _. w))

  -- a ready job works
  sound_work : (n k s : ℕ) (x : State) → 0 < left_of x k → Sound b l a n x → Sound b l a n (worked x k s a)
  unfolding worked
  sound_work n k s x h S = record {
    sinces = S.sinces;
    jobs = S.jobs;
    places = answered-length k u x S.places (S.running k h);
    running = λ j.
        on_same j k
        (λ e g. S.running j (rw e h))
        (λ d g. S.running j (rw (get_or-set_other x.left k j u 0 d) at g));
    told = λ p m.
        ⊎_elim
        (λ w. on_same (place_of l p) k (λ e. mine p e w) (λ d. inl (record { unfinished = rw (get_or-set_other x.left k _ u 0 d) w.unfinished; job = w.job })))
        (λ w. inr (answered_keeps k u x S.places (S.running k h) p w))
        (S.told p m);
  }
    where
      u : ℕ
      u = left_of x k - s

      within : k < length x.left
      within = on_le (length x.left) k (λ g. absurd (omega (arith, get_or-eq_default x.left 0 g))) (λ g. g)

      mine : (p : ℕ) → place_of l p ≡ k → Pending x (place_of l p) p
          → Pending (worked x k s a) (place_of l p) p ⊎ In 1 (bound b l p) (response_of (worked x k s a) p)
      mine p e w =
          let f : job_of x k ≡ p = ap (job_of x) (sym e) ∙ w.job in
          on_zero u
          (λ z. inr (rw f at (answered-own k u x S.places (S.running k h) z)))
          (λ g. inl (rw e (record { unfinished = rw (get_or-set_same x.left k u 0 within) g; job = f })))

module _ (b : Board) (inside : BoardIn b) (l : List Release) (listed : Listed b l) (H : ℕ) (prompt : PromptBefore b l H) where
  -- once the tick's work is done, an unfinished job is in time for the next tick too
  sound_next : (a : ℕ) (x : State) → a < H → Lefts b l (suc a) 0 x → Sound b l a (length l) x → Sound b l (suc a) 0 x
  sound_next a x h g S = record {
    sinces = S.sinces;
    jobs = S.jobs;
    places = S.places;
    running = λ k s.
        let r = S.running k s in
        record {
          goes = r.goes;
          begun = omega (arith, r.begun);
          in_time =
              on_same (since_of x k + bound b l (job_of x k)) (suc a)
              (λ e.
              absurd
              (omega (
                arith,
                lefts_between b l (fit b l inside listed) (suc a) x g k,
                prompt.prompt (job_of x k) (since_of x k) k r.goes (omega arith),
                ap (λ t. remains b l t k) e,
              )))
              (λ d. omega (arith, r.in_time));
        };
    told = λ p m.
        S.told p
        (record {
          listed = m.listed;
          by = on_same (nth l p).at (suc a) (λ e. absurd (omega (arith, m.before e))) (λ d. omega (arith, m.by));
          before = λ _. m.listed;
        });
  }

  goes : (n a : ℕ) → n < length l → (nth l n).at ≡ a → Goes l n a (place_of l n)
  goes n a h e = record { listed = h; at = e; task = omega (arith, listed.some n h) }

  -- no release before H meets an unfinished job: neither one that remains, nor one released at the same tick
  unmet : (a n : ℕ) (x : State) → a < H → n < length l → (nth l n).at ≡ a → Lefts b l a n x → left_of x (place_of l n) ≡ 0
  unmet a n x t h e g =
      let k = place_of l n in
      on_zero (released b (take n l) a k)
      (λ z.
      g.is k ∙ renewed_none _ z
      ∙ prompt.clear a k t (released_some b l n a k (goes n a h e) ((fit b l inside listed).units n h)))
      (λ s.
      let w = entry b (take n l) a k s in
      let i : w.place < n = omega (arith, w.goes.listed, length-take n l) in
      let f = ap (λ (y : Release). y.at) (get_or-take n l w.place no_release i) in
      let f' = ap (λ (y : Release). y.task) (get_or-take n l w.place no_release i) in
      absurd
      (omega
      (arith, listed_once b l listed w.place n i h (sym f ∙ w.goes.at ∙ sym e), f', w.goes.task, (goes n a h e).task)))

  steps : Steps b l 0 H (λ _ _. ⊥) (Going b l)
  steps =
      let f = fit b l inside listed in
      let L = lefts b l f 0 H (λ _ _. Unit) (λ _ _ _ _ _ _ _ _ _. tt) in
      record {
        skips = λ a s t n x h d g. record { lefts = L.skips a s t n x h d g.lefts; sound = sound_skip b l a n x d g.sound };
        starts = λ a s t n x h e z g.
            record {
              lefts = L.starts a s t n x h e z g.lefts;
              sound =
                  sound_start b l a n (place_of l n) (units_of b (nth l n)) x (goes n a h e) (omega (arith, f.some n h, f.home n h)) g.lefts.size
                  z (f.units n h) (bound_some b inside l listed n h) g.sound;
            };
        meets = λ a s t n x h e d g. d (unmet a n x t h e g.lefts);
        works = λ a s t x g.
            let next = L.works a s t x g.lefts in
            record {
              lefts = next;
              sound = sound_next a _ t next (work_keeps a (Sound b l a (length l)) (λ y k v p S. sound_work b l a (length l) k v y p S) b.speeds x g.sound);
            };
      }

  first : Going b l 0 0 (fresh (length l))
  unfolding fresh
  first =
      let g = lefts_fresh b l in
      record {
        lefts = g;
        sound = record {
          sinces = refl;
          jobs = refl;
          places = length-replicate (length l) 0;
          running = λ k h. absurd (omega (arith, lefts_between b l (fit b l inside listed) 0 _ g k, (follows b.speeds (released b l)).start k));
          told = λ p m. let e : (nth l p).at ≡ 0 = omega (arith, m.by) in absurd (omega (arith, m.before e));
        };
      }

  -- the run comes to tick H, in a sound state
  pub going : Holds (λ _ _. ⊥) (Going b l H 0) (after b l H)
  unfolding Holds after
  going = rw zero-add at (run_keeps b l 0 H (λ _ _. ⊥) (Going b l) steps H (omega arith) first)
