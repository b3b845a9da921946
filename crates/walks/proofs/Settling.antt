-- The sums grow from pass to pass, and once a pass changes nothing no later one does: what is settled bounds every walk. Assumes nothing.
use Rattle.std.specs.Prelude.{Option, None, Some}
use Prim.Native.Nat.{ℕ, suc, ◌+◌, ◌≤◌, ◌<◌}
use native.Mathlib.Decide.{le_ind}
use native.Mathlib.Omega.{arith}
use mathlib.Core.Path.{◌≡◌, refl, ap, sym, ◌∙◌, subst}
use mathlib.Core.Logic.{◌≢◌}
use mathlib.Core.List.{List}
use lib.IntN.{ℤ, pos, ◌+ℤ◌}
use lib.ListN.{get_or}
use Rattle.laws.proofs.Options.{none-ne-some, some-injective}
use Rattle.walks.specs.Walks.{Arc, Walk, stay, go, WalkWithin}
use Rattle.walks.specs.Passes.{Sums, pass, sums, pass_number, Settled, settled}
use Rattle.walks.specs.Solutions.{Between}
use Rattle.walks.proofs.Greatest.{AtLeast, at_least, EndsBelow, raise_all_keeps, none_greater, some_equal}
use Rattle.walks.proofs.PassNumber.{first_is, agree_eq, agrees_of}
use Rattle.laws.proofs.Signed.{signed, sum}

-- arcs between n events end at one of them
pub ends_below : (arcs : List Arc) (n : ℕ) → Between arcs n → EndsBelow arcs n
ends_below arcs n b a m = (b a m).1

-- what stands there is one value
pub one_value : (o : Option ℤ) (x y : ℤ) → o ≡ Some x → o ≡ Some y → x ≡ y
one_value o x y e f = some-injective _ _ (sym e ∙ f)

-- ---- the sums grow

-- what is at least w after k passes is so after one more
pass_keeps : (arcs : List Arc) (n k v : ℕ) (w : ℤ) → AtLeast (get_or (sums arcs n k) v None) w → AtLeast (get_or (sums arcs n (suc k)) v None) w
unfolding sums pass
pass_keeps arcs n k v w h = raise_all_keeps (sums arcs n k) arcs (sums arcs n k) v w h

-- a sum after j passes is there after k, and no less
pub sums_grow : (arcs : List Arc) (n j k v : ℕ) (x : ℤ) → j ≤ k → get_or (sums arcs n j) v None ≡ Some x → AtLeast (get_or (sums arcs n k) v None) x
sums_grow arcs n j k v x h e =
    le_ind (λ m. AtLeast (get_or (sums arcs n m) v None) x) (subst (λ (o : Option ℤ). AtLeast o x) (sym e) (at_least x x (omega signed)))
    (λ m _ a. pass_keeps arcs n m v x a) k h

-- ---- sums that stay

-- once a pass changes nothing, no later one does: a pass is a function of the sums that it reads
pub still_stays : (arcs : List Arc) (n k : ℕ) → sums arcs n k ≡ sums arcs n (suc k) → (j : ℕ) → k ≤ j → sums arcs n j ≡ sums arcs n k
unfolding sums
still_stays arcs n k e j h = le_ind (λ m. sums arcs n m ≡ sums arcs n k) refl (λ m _ f. ap (pass arcs) f ∙ sym e) j h

-- ---- what is settled

-- the sums of the settled are those after its passes, its passes are the pass number, and one pass more changes nothing
pub settled_is : (arcs : List Arc) (n : ℕ) (s : Settled) → settled arcs n ≡ Some s
    → (s.sums ≡ sums arcs n s.passes) × (pass_number arcs n ≡ Some s.passes) × (sums arcs n s.passes ≡ sums arcs n (suc s.passes))
unfolding settled pass_number
settled_is arcs n s e = by (pass_number arcs n) refl e
  where
    by : (o : Option ℕ) → pass_number arcs n ≡ o
        → elim o [ None ↦ None | Some k ↦ Some (record { passes = k; sums = sums arcs n k }) ] ≡ Some s
        → (s.sums ≡ sums arcs n s.passes) × (pass_number arcs n ≡ Some s.passes) × (sums arcs n s.passes ≡ sums arcs n (suc s.passes))
    by None q f = absurd (none-ne-some _ f)
    by (Some k) q f =
        let r : ◌≡◌ {A = Settled} (record { passes = k; sums = sums arcs n k }) s = some-injective _ _ f in
        subst (λ (z : Settled). (z.sums ≡ sums arcs n z.passes) × (pass_number arcs n ≡ Some z.passes) × (sums arcs n z.passes ≡ sums arcs n (suc z.passes))) r
        (refl, q, agree_eq (sums arcs n k) (sums arcs n (suc k)) (first_is arcs n n 0 k q).agrees)

-- each pass before that changes something
pub changed_before : (arcs : List Arc) (n : ℕ) (s : Settled) → settled arcs n ≡ Some s → (j : ℕ) → j < s.passes → sums arcs n j ≢ sums arcs n (suc j)
unfolding pass_number
changed_before arcs n s e j l q = (first_is arcs n n 0 s.passes (settled_is arcs n s e).1).before j (omega arith) l (agrees_of arcs n j q)

-- a walk from the start to the start, and on by another
round : (arcs : List Arc) (j k v : ℕ) (x w : ℤ) → Walk arcs j 0 x → Walk arcs k v w → (m : ℕ) × (y : ℤ) × Walk arcs m v y × (y ≡ x +ℤ w)
round arcs j k v x w first stay = (j, x, first, omega (signed, sum x (pos 0)))
round arcs j k v x w first (go {k = k'} {w = w'} a m walk) =
    let (l, y, on, e) = round arcs j k' a.from x w' first walk in
    (suc l, y +ℤ a.adds, go a m on, omega (signed, sum y a.adds, sum x w', sum w' a.adds, sum x (w' +ℤ a.adds)))

module _ (arcs : List Arc) (n : ℕ) (p : 0 < n) (i : Between arcs n) (s : Settled) (e : settled arcs n ≡ Some s) where
  -- the settled sums are those after any number of passes that is not less
  pub settled_after : (k : ℕ) → s.passes ≤ k → s.sums ≡ sums arcs n k
  settled_after k h = let (a, b, c) = settled_is arcs n s e in a ∙ sym (still_stays arcs n s.passes c k h)

  -- they bound every walk, of any number of arcs: an event is reached by then or never
  pub settled_bounds : (j v : ℕ) (w : ℤ) → Walk arcs j v w → AtLeast (get_or s.sums v None) w
  settled_bounds j v w walk =
      subst (λ (l : Sums). AtLeast (get_or l v None) w) (sym (settled_after (s.passes + j) (omega arith)))
      (none_greater arcs n (s.passes + j) j v w p (ends_below arcs n i) walk (omega arith))

  -- each is the sum of a walk of no more arcs than passes
  pub settled_walk : (v : ℕ) (x : ℤ) → get_or s.sums v None ≡ Some x → WalkWithin arcs s.passes v x
  settled_walk v x f = some_equal arcs n s.passes v x (ap (λ (l : Sums). get_or l v None) (sym (settled_is arcs n s e).0) ∙ f)

  -- the start is at 0: a closed walk from it that gains could be gone round once more
  pub settled_start : get_or s.sums 0 None ≡ Some (pos 0)
  settled_start =
      let a : AtLeast (get_or s.sums 0 None) (pos 0) = settled_bounds 0 0 (pos 0) stay in
      let x : ℤ = a.value in
      let r : WalkWithin arcs s.passes 0 x = settled_walk 0 x a.there in
      let (m, y, walk, q) = round arcs r.count r.count 0 x x r.walk r.walk in
      let b : AtLeast (get_or s.sums 0 None) y = settled_bounds m 0 y walk in
      let f : x ≡ b.value = one_value (get_or s.sums 0 None) x b.value a.there b.there in
      let z : x ≡ pos 0 = omega (signed, sum x x, a.least, b.least) in
      a.there ∙ ap Some z
