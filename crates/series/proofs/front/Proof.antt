-- `front` lends the first items of an array as a slice. The borrow checker shows no write-back clause for a part of a `[T; N]`, so this
-- proof walks the code: the items in memory are cut in two, the first part is lent, and the others wait until it comes back.
-- Assumes nothing.
use mathlib.Core.Path.{◌≡◌, refl, sym, ap}
use Prim.Native.Nat.{ℕ, ◌*◌, ◌^◌, ◌<◌, ◌≤◌}
use native.Mathlib.Nat.{mul-le-mul_right}
use native.Mathlib.Omega.{arith}
use mathlib.Core.List.{List, [], ◌∷◌, ◌++◌}
use lib.ListN.{length, take, drop as drop_list, take-append-drop, length-drop, length-append}
use seplogic.Ra.Ura.{Ura}
use mir.Syntax.{Args, Fn, named, w64, a_type, a_number}
use mir.MapTy.{inst_fn}
use mir.Val.{Val, vptr, vint}
use base.Logic.{SProp, ent, sep, ex, guard}
use base.Fraction.{full_share}
use base.Fml.{Fml, Lft, GName, Share, ftrue, fsep, feq, flft}
use prog.Memory.{Memory, size}
use prog.Routine.{Routine}
use prog.Wp.{Calls, Loops, WpFn, Tables}
use types.Logic.{Logic, sem}
use types.Mut.{open_ref}
use types.SemTy.{cells}
use contract.BorrowLft.{◌⊑◌}
use contract.Lifetimes.{AllOutlive}
use contract.Monad.{Fun}
use contract.Running.{tables, tables_of}
use sound.WpLaws.{WpFn-mono}
use types.Kit.{Item, ‵, ◌⊛◌, raw, given, some, later, ◌$◌, ◌∵◌, !, qed, by, move, keep, drop, split, split3, join, learn, group}
use types.Kit.{fsplit, fsplit3, fjoin, feq_i, feq_l, use1, use2, await, pick, suffices, frame, done, check, updating, now, show, rewrite}
use types.Part.{agg}
use types.Run.{stop, addr, and_then, no_more, returns, enter}
use types.ByLocal.{alloc_all, pass_all, free_all, look_at, get, through, sets}
use denote.Array.{Array}
use denote.ArrayMemory.{Array-apart, Array-whole}
use denote.Builtin.{RefMutOf, usize}
use denote.Exit.{yes, no}
use denote.Follow.{follows}
use denote.FollowSlice.{lends_Elements}
use denote.Index.{row, whole_in, whole_out}
use denote.Memory.{mem, part_at}
use denote.Param.{param, number, layout, layouts, ArrayAt}
use denote.Plain.{uint_vals, uint_Tells}
use denote.RattleType.{RattleType, owns}
use denote.Ref.{MutBor, MutRef, mut_vals, mut_Tells}
use denote.Signature.{plain}
use denote.Slice.{MutSlice, Room, slice_val}
use denote.Steps.{nothing}
use denote.Triple.Clauses.{Clauses, Ended, closing}
use denote.Triple.Entry.{on_entry}
use denote.Triple.Spec.{Meets, triple_of}
use denote.Triple.Statement.{Contract}
use denote.Triple.Table.{entered}
use denote.Triple.Walked.{says, Stays, stay_dropped, walk_of, ends_at, walked, Goes-dropped, Goes-spent_ref, walk_Meets}
use borrow.Table.Elements.{at, cut_app, join_app, length-take-le}
use Rattle.series.specs.Series.{rewritten}
use Rattle.series.specs.Places.{refill_same}
use Rattle.series.specs.contracts.front as F
use Rattle.series.specs.contracts.front.Key.{name as #self}
use Rattle.series.proofs.front.Statement as stated
use Rattle.series.proofs.front.Code as code

module _ (X : RattleType) (n : ℕ) where
  abbrev args : Args
  args = layouts (a_type ∷ a_number ∷ []) (X, (number n, tt))

  abbrev function : Fn
  function = inst_fn args code.function

  -- the type of an item, that of the array, and that of a slice
  abbrev R : RattleType
  R = param 0 X

  abbrev S : RattleType
  S = ArrayAt R (param 1 (number n))

  abbrev Slice : RattleType
  Slice = Array R 0

  abbrev ended : Ended
  ended = F.ended X (number n)

  abbrev stayed : Stays ended.signature.params ended.kept
  stayed = (
    stay_dropped (RefMutOf (0 ∷ []) tt (plain (λ _. S)) (λ _. tt)) no,
    (stay_dropped (plain (λ _. usize)) yes, tt),
  )

  abbrev item_size : ℕ
  item_size = size (layout X)

module _ (X : RattleType) (n : ℕ) {M : Type 1} {𝓤 : Ura M} (𝓛 : Logic 𝓤) where
  open 𝓛 use {H, A}

  -- items side by side, and an array of them, in memory
  abbrev items : List X.Denot → ℕ → ℕ → Fml
  items xs b o = cells (mem (R X n)) xs b o

  abbrev array : List X.Denot → ℕ → ℕ → Fml
  array xs b o = (mem (S X n)).own_at xs b o

  items_out : (xs : List X.Denot) (b o : ℕ) → ent 𝓤 (sem 𝓛 (array xs b o)) (guard 𝓤 (length xs ≡ n) (sem 𝓛 (items xs b o)))
  items_out xs b o =
      let apart = Array-apart 𝓛 (R X n) full_share tt n xs b o in
      qed 𝓛 (‵ (part_at (S X n) full_share xs b o) ∷ []) ∵
      use1 𝓛 (‵ (fsep (feq ℕ (length xs) n) (row (R X n) full_share xs b o))) apart $
      fsplit ! $ feq_l ! (λ long. use1 𝓛 (‵ (items xs b o)) (whole_in 𝓛 (R X n) xs b o) $ check ! long $ done !)

  items_in : (xs : List X.Denot) (b o : ℕ) → length xs ≡ n → ent 𝓤 (sem 𝓛 (items xs b o)) (sem 𝓛 (array xs b o))
  items_in xs b o long =
      qed 𝓛 (‵ (items xs b o) ∷ []) ∵
      use1 𝓛 (‵ (row (R X n) full_share xs b o)) (whole_out 𝓛 (R X n) xs b o) $
      feq_i ! ℕ (length xs) n long $ fjoin ! $ by ! (Array-whole 𝓛 (R X n) full_share n xs b o)

  -- the loan of the first m items of xs, which lie at (b, o)
  module _ (κ : Lft) (q : Share) (b o : ℕ) (γ : GName) (xs : List X.Denot) (m : ℕ) where
    abbrev first : List X.Denot
    first = take m xs

    abbrev others : List X.Denot
    others = drop_list m xs

    abbrev Others : ℕ → Fml
    Others count = items others b (at o (mem (R X n)).size count)

    put : m ≤ length xs → length xs ≡ n → (ws : List X.Denot) → length ws ≡ length first
        → ent 𝓤 (sep 𝓤 (sem 𝓛 (items ws b o)) (sem 𝓛 (Others (length first)))) (sem 𝓛 (array (rewritten m xs ws) b o))
    put within long ws e =
        let count : length first ≡ m = length-take-le m xs within in
        let left = length-drop m xs in
        let both = length-append ws others in
        let same : ws ++ others ≡ rewritten m xs ws = ap (λ (l : List X.Denot). l ++ others) (sym (refill_same first ws e)) in
        let whole = ap length same in
        qed 𝓛 (‵ (items ws b o) ∷ ‵ (Others (length first)) ∷ []) ∵
        rewrite ! 1 (λ (k : ℕ). ‵ (Others k)) (sym e) refl $
        use2 𝓛 (‵ (items (ws ++ others) b o)) (join_app 𝓛 (mem (R X n)) ws others b o) $
        rewrite ! 0 (λ (l : List X.Denot). ‵ (items l b o)) same refl $
        by ! (items_in (rewritten m xs ws) b o (omega arith))

    -- the array before the loan; then its first items under a new name, the token, and what the array ends as
    abbrev Before : List Val → Fml
    Before = (MutRef (named 0) κ (S X n)).own_val (record { ref_ptr = (b, o); ghost_name = γ; now = xs })

    abbrev loan : ℕ → GName → Fml
    loan k δ =
        (MutSlice (named 0) κ (R X n)).own_val (record { ref_ptr = (b, o); ghost_name = δ; now = first }) (slice_val (b, o) k ∷ [])

    abbrev after : GName → Fml
    after δ = follows (S X n) (Slice X n) γ δ (rewritten m xs)

    abbrev Lent : ℕ → GName → SProp 𝓤
    Lent k δ = sep 𝓤 (sem 𝓛 (loan k δ)) (sep 𝓤 (A.lft κ q) (sem 𝓛 (after δ)))

    abbrev lent : ℕ → GName → Item 𝓤
    lent k δ = ‵ (loan k δ) ⊛ ‵ (flft κ q) ⊛ ‵ (after δ)

    lends : m ≤ n → m < 2 ^ 64 → n * item_size X n < 2 ^ 63 → (vs : List Val)
        → ent 𝓤 (sep 𝓤 (sem 𝓛 (Before vs)) (A.lft κ q)) (H.⇛ (ex 𝓤 (Lent m)))
    lends within fm small vs =
        qed 𝓛 (‵ (Before vs) ∷ ‵ (flft κ q) ∷ []) ∵
        updating ! $ fsplit3 ! $ drop ! $ open_ref ! tt (mem (S X n)) {b = b} {o = o} $
        use1 𝓛 (given (length xs ≡ n) (‵ (items xs b o))) (items_out xs b o) $
        learn ! (λ long.
        let count : length first ≡ m = length-take-le m xs (omega arith) in
        let bytes : length first * item_size X n ≤ n * item_size X n = mul-le-mul_right (item_size X n) (omega arith) in
        let room : Room (R X n) (length first) = (omega arith, omega arith) in
        let back = put (omega arith) long in
        let code = (S X n).coded.code xs in
        rewrite ! 0 (λ (l : List X.Denot). ‵ (items l b o)) (sym (take-append-drop m xs)) refl $
        use1 𝓛 (‵ (items first b o) ⊛ ‵ (Others (length first))) (cut_app 𝓛 (mem (R X n)) first others b o) $
        split ! $ move ! (2 ∷ 3 ∷ 4 ∷ 0 ∷ 1 ∷ []) $ group ! 5 $
        use1 𝓛 (later (some (lent (length first))))
        (lends_Elements 𝓛 (S X n) (R X n) (rewritten m xs) (named 0) κ q b o b o γ first room (sem 𝓛 (Others (length first))) back code code) $
        await ! tt $ pick ! (λ δ. rewrite ! 0 (λ (k : ℕ). lent k δ) count refl $ now ! $ show ! (Lent m) δ $ done !))

  module _ (at_mem : Memory → SProp 𝓤) (run : Routine → Fun 𝓤) where
    abbrev clauses : Clauses 𝓤 (ended X n)
    clauses = F.clauses X (number n) 𝓛 at_mem run

    abbrev Along : Contract 𝓤
    Along = walk_of 𝓛 (ended X n) (stayed X n) clauses

    module _ (C : Calls 𝓤 H) (Λ : Loops 𝓤 H) (κ κT κN : Lft) (q qT qN : Share)
        (bd : AllOutlive 3 (ended X n).signature.outlives (κ, (κT, (κN, tt)))) (b o : ℕ) (γ : GName)
        (xs : List X.Denot) (m : ℕ) where
      abbrev lender : MutBor (List X.Denot)
      lender = record { ref_ptr = (b, o); ghost_name = γ; now = xs }

      abbrev bound : Along.Ghost
      bound = (((κ, (κT, (κN, tt))), (q, (qT, (qN, tt))), bd, (lender, (m, tt)), (mut_vals lender, (vint w64 m ∷ [], tt))), tt)

      abbrev entry : SProp 𝓤
      entry = on_entry 𝓛 (ended X n).signature bound.0.0 bound.0.1 bound.0.3 bound.0.4

      abbrev tokens : Item 𝓤
      tokens = ‵ (flft κ q) ⊛ ‵ (flft κT qT) ⊛ ‵ (flft κN qN) ⊛ ‵ ftrue

      abbrev owned : Fml
      owned = owns (MutRef (named 0) κ (S X n) ∷ usize ∷ []) bound.0.3 bound.0.4

      abbrev slice : ℕ → MutBor (List X.Denot)
      slice δ = record { ref_ptr = (b, o); ghost_name = δ; now = take m xs }

      walk : m ≤ n → m < 2 ^ 64 → n * item_size X n < 2 ^ 63
          → ent 𝓤 entry (WpFn 𝓤 H C Λ (function X n) (vptr b o ∷ vint w64 m ∷ []) (Along.post bound))
      walk within fm small =
          qed 𝓛 (tokens ∷ ‵ owned ∷ []) ∵
          enter ! C Λ (function X n) (vptr b o ∷ vint w64 m ∷ []) _ $
          alloc_all ! (λ l. pass_all ! refl ((tt, tt), ((tt, record { fits = fm }), tt)) $
          sets ! (addr ! (through ! refl (stop !))) refl (tt, tt) $
          sets ! (agg ! (and_then ! (get ! refl) (and_then ! (get ! refl) (no_more !)))) refl (tt, (tt, (record { fits = fm }, tt))) $
          split ! $ move ! (2 ∷ []) $ fsplit ! $ move ! (0 ∷ 2 ∷ []) $
          use2 𝓛 (later (some (lent κ q b o γ xs m m))) (lends κ q b o γ xs m within fm small (mut_vals lender)) $
          await ! tt $ pick ! (λ δ.
          returns ! (look_at ! 0 refl) $ free_all ! refl $ keep ! (0 ∷ 2 ∷ []) $ split3 ! $
          suffices ! _ (ends_at 𝓛 (ended X n) (stayed X n) clauses bound (slice_val (b, o) m) (slice δ) (tt, (tt, tt)) (tt, (tt, tt))) $
          nothing ! $ nothing ! $ fjoin ! $ nothing ! $ fjoin ! $ join ! $
          move ! (1 ∷ 3 ∷ []) $ join ! $ join ! $ frame ! $ says ! refl $ done !))

    meets : (𝓣 : Tables 𝓤 H) → Meets 𝓛 (ended X n).signature (WpFn 𝓤 H 𝓣.C 𝓣.Λ (function X n)) (closing 𝓛 (ended X n) clauses)
    meets 𝓣 =
        walk_Meets 𝓛 (ended X n) (stayed X n)
        (Goes-spent_ref 𝓛 3 (0 ∷ []) tt (plain (λ _. S X n)), (Goes-dropped 𝓛 3 (plain (λ _. usize)) yes (λ κs x f. refl), tt)) clauses
        (WpFn 𝓤 H 𝓣.C 𝓣.Λ (function X n)) (WpFn-mono 𝓤 H 𝓛.laws 𝓣 (function X n))
        (walked 𝓛 (ended X n) (stayed X n) clauses (WpFn 𝓤 H 𝓣.C 𝓣.Λ (function X n))
        (λ κs. (mut_vals, (uint_vals w64, tt))) (λ κs. (mut_Tells (named 0) κs.0 (S X n), (uint_Tells w64, tt)))
        (λ κs qs bounds a g are.
        let asked : Item 𝓤 =
        given (κs.1.0 ⊑ X.lives) (‵ ftrue) ⊛ given (κs.1.1.0 ⊑ []) (‵ ftrue)
        ⊛ given (n * item_size X n < 2 ^ 63) (‵ ftrue) ⊛ given (a.1.0 ≤ n) (‵ ftrue) in
        let r = a.0 in
        qed 𝓛 (raw (on_entry 𝓛 (ended X n).signature κs qs a (mut_vals r, (vint w64 a.1.0 ∷ [], tt))) ∷ asked ∷ []) ∵
        move ! (1 ∷ []) $ split3 ! $ drop ! $ drop ! $ split ! $ learn ! (λ small. drop ! $ learn ! (λ within. drop ! $
        by ! (walk 𝓣.C 𝓣.Λ κs.0 κs.1.0 κs.1.1.0 qs.0 qs.1.0 qs.1.1.0 bounds
        r.ref_ptr.0 r.ref_ptr.1 r.ghost_name r.now a.1.0 within are.1.0.1 small)))))

pub front_spec : {M : Type 1} → stated.statement M
unfolding tables_of
front_spec 𝓤 𝓛 𝓜 𝓡 wired X n L fits =
    let 𝓣 : Tables 𝓤 𝓛.H = tables_of 𝓤 𝓛.H 𝓜 (tables 𝓤 𝓛.H 𝓜 𝓡 𝓡.env) in
    let triple = triple_of 𝓛 (ended X n).signature (F.spec X (number n) 𝓛 𝓜.mem 𝓡.returns) in
    let unfolded = code.unfolded 𝓤 𝓛.H 𝓜 𝓡 wired (X, (number n, tt)) in
    entered 𝓤 𝓛.H triple 𝓣.C 𝓣.Λ (#self (args X n)) (function X n) unfolded (meets X n 𝓛 𝓜.mem 𝓡.returns 𝓣)
