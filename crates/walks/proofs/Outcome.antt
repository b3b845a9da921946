-- What one pass comes to at an event: its sum and parent stay, or an arc gives it a sum that is strictly more. Assumes nothing.
use Rattle.std.specs.Prelude.{Option, None, Some}
use Prim.Native.Nat.{ℕ, zero, suc, ◌+◌, ◌<◌}
use native.Mathlib.Nat.{add-zero, zero-add}
use native.Mathlib.Decide.{ℕ_discrete}
use native.Mathlib.Omega.{arith}
use mathlib.Core.Path.{◌≡◌, refl, ap, sym, ◌∙◌, subst}
use mathlib.Core.Logic.{◌≢◌}
use mathlib.Core.Bool.{Bool, true, false, cond}
use mathlib.Core.List.{List, [], ◌∷◌}
use lib.IntN.{ℤ, ◌+ℤ◌}
use lib.Signed.{lt_z, ◌<ℤ◌}
use lib.ListN.{length, get_or, set, length-set, length-replicate}
use lib.Seq.{get_or-set_same, get_or-set_other}
use Rattle.laws.proofs.Options.{none-ne-some, some-injective}
use Rattle.laws.proofs.Members.{at_place}
use Rattle.walks.specs.Walks.{Arc}
use Rattle.walks.specs.Passes.{Sums, greater, plus, raise, raise_all, pass, sums}
use Rattle.walks.specs.Parents.{Parents, raises, adopt, adopt_all, parents, no_arc}
use Rattle.walks.specs.Solutions.{Between}
use Rattle.walks.proofs.Greatest.{sums_length, raise_one_length}
use Rattle.laws.proofs.Signed.{signed}

-- the test is the one by which `greater` picks the second
pub greater_is : (x y : Option ℤ) → greater x y ≡ cond (raises x y) y x
unfolding greater raises
greater_is None None = refl
greater_is None (Some y) = refl
greater_is (Some x) None = refl
greater_is (Some x) (Some y) = refl

-- ---- there is a parent, or none, for every event

-- one arc stores at most one
adopt_length : (old new : Sums) (ps : Parents) (i : ℕ) (a : Arc) → length (adopt old new ps i a) ≡ length ps
unfolding adopt
adopt_length old new ps i a = by (raises (get_or new a.to None) (plus (get_or old a.from None) a.adds))
  where
    by : (b : Bool) → length {A = Option ℕ} (elim b [ true ↦ set ps a.to (Some i) | false ↦ ps ]) ≡ length ps
    by true = length-set ps a.to (Some i)
    by false = refl

-- so do they all
adopt_all_length : (as' : List Arc) (i : ℕ) (old new : Sums) (ps : Parents) → length (adopt_all as' i old new ps) ≡ length ps
unfolding adopt_all
adopt_all_length [] i old new ps = refl
adopt_all_length (a ∷ as') i old new ps = adopt_all_length as' (suc i) old (raise old new a) (adopt old new ps i a) ∙ adopt_length old new ps i a

-- so there are n after every pass
pub parents_length : (arcs : List Arc) (n k : ℕ) → length (parents arcs n k) ≡ n
unfolding parents
parents_length arcs n zero = length-replicate n None
parents_length arcs n (suc k) = adopt_all_length arcs 0 (sums arcs n k) (sums arcs n k) (parents arcs n k) ∙ parents_length arcs n k

module _ (arcs : List Arc) where
  -- the arc at a place
  abbrev pub arc : ℕ → Arc
  arc i = get_or arcs i no_arc

  -- the sum and the parent of v after arcs of a pass that reads old, with the parents ps before it
  pub data Outcome (old : Sums) (ps : Parents) (v : ℕ) : Option ℤ → Option ℕ → Type 0 where
    same : Outcome old ps v (get_or old v None) (get_or ps v None)
    rose : (i : ℕ) (x : ℤ) → i < length arcs → (arc i).to ≡ v → get_or old (arc i).from None ≡ Some x
        → ((r : ℤ) → get_or old v None ≡ Some r → r <ℤ (x +ℤ (arc i).adds))
        → Outcome old ps v (Some (x +ℤ (arc i).adds)) (Some i)

  module _ (old : Sums) (ps : Parents) where
    -- more than the sum found so far is more than the sum before the pass
    more : (v : ℕ) (o : Option ℤ) (q : Option ℕ) (t : ℤ) → Outcome old ps v o q → ((r : ℤ) → o ≡ Some r → r <ℤ t)
        → (r : ℤ) → get_or old v None ≡ Some r → r <ℤ t
    more v o q t same h r e = h r e
    more v o q t (rose i x l to from up) h r e =
        let a : r <ℤ (x +ℤ (arc i).adds) = up r e in
        let b : (x +ℤ (arc i).adds) <ℤ t = h (x +ℤ (arc i).adds) refl in
        omega signed

    -- one arc, at the event where it ends
    at_end : (v i : ℕ) (o : Option ℤ) (q : Option ℕ) (f : Option ℤ) → i < length arcs → (arc i).to ≡ v → get_or old (arc i).from None ≡ f
        → Outcome old ps v o q
        → Outcome old ps v (greater o (plus f (arc i).adds)) (elim (raises o (plus f (arc i).adds)) [ true ↦ Some i | false ↦ q ])
    unfolding greater plus raises
    at_end v i None q None l to from w = w
    at_end v i (Some y) q None l to from w = w
    at_end v i None q (Some x) l to from w =
        rose i x l to from (more v None q (x +ℤ (arc i).adds) w (λ r e. absurd (none-ne-some _ e)))
    at_end v i (Some y) q (Some x) l to from w = by (lt_z y (x +ℤ (arc i).adds)) refl
      where
        by : (b : Bool) → lt_z y (x +ℤ (arc i).adds) ≡ b
            → Outcome old ps v (cond b (Some (x +ℤ (arc i).adds)) (Some y)) (elim b [ true ↦ Some i | false ↦ q ])
        by true e =
            rose i x l to from (more v (Some y) q (x +ℤ (arc i).adds) w
            (λ r d. let z : y ≡ r = some-injective _ _ d in omega signed))
        by false e = w

    -- one arc, at any event
    at_any : (v i : ℕ) (new : Sums) (qs : Parents) → i < length arcs → (arc i).to < length new → (arc i).to < length qs
        → Outcome old ps v (get_or new v None) (get_or qs v None)
        → Outcome old ps v (get_or (raise old new (arc i)) v None) (get_or (adopt old new qs i (arc i)) v None)
    unfolding raise adopt
    at_any v i new qs l ln lq w = by (ℕ_discrete v (arc i).to)
      where
        u : ℕ
        u = (arc i).to

        f : Option ℤ
        f = get_or old (arc i).from None

        c : Bool
        c = raises (get_or new u None) (plus f (arc i).adds)

        here : (b : Bool) → get_or {A = Option ℕ} (elim b [ true ↦ set qs u (Some i) | false ↦ qs ]) u None ≡ elim b [ true ↦ Some i | false ↦ get_or qs u None ]
        here true = get_or-set_same qs u (Some i) None lq
        here false = refl

        there : (b : Bool) → v ≢ u → get_or {A = Option ℕ} (elim b [ true ↦ set qs u (Some i) | false ↦ qs ]) v None ≡ get_or qs v None
        there true h = get_or-set_other qs u v (Some i) None h
        there false h = refl

        by : Dec (v ≡ u)
            → Outcome old ps v (get_or (set new u (greater (get_or new u None) (plus f (arc i).adds))) v None)
            (get_or {A = Option ℕ} (elim c [ true ↦ set qs u (Some i) | false ↦ qs ]) v None)
        by (yes e) =
            let w' : Outcome old ps u (get_or new u None) (get_or qs u None) = subst (λ (z : ℕ). Outcome old ps z (get_or new z None) (get_or qs z None)) e w in
            rw (e, get_or-set_same new u (greater (get_or new u None) (plus f (arc i).adds)) None ln, here c)
            (at_end u i (get_or new u None) (get_or qs u None) f l refl refl w')
        by (no h) = rw (get_or-set_other new u v (greater (get_or new u None) (plus f (arc i).adds)) None h, there c h) w

    -- the arcs from place i on
    at_all : (v : ℕ) (as' : List Arc) (i : ℕ) (new : Sums) (qs : Parents)
        → ((j : ℕ) → get_or as' j no_arc ≡ arc (i + j)) → i + length as' ≡ length arcs
        → ((j : ℕ) → j < length arcs → ((arc j).to < length new) × ((arc j).to < length qs))
        → Outcome old ps v (get_or new v None) (get_or qs v None)
        → Outcome old ps v (get_or (raise_all as' old new) v None) (get_or (adopt_all as' i old new qs) v None)
    unfolding raise_all adopt_all
    at_all v [] i new qs tail ends fits w = w
    at_all v (a ∷ as') i new qs tail ends fits w =
        let l : i < length arcs = omega arith in
        let e : a ≡ arc i = tail 0 ∙ ap arc (add-zero i) in
        let step : Outcome old ps v (get_or (raise old new a) v None) (get_or (adopt old new qs i a) v None) =
        subst (λ (z : Arc). Outcome old ps v (get_or (raise old new z) v None) (get_or (adopt old new qs i z) v None)) (sym e)
        (at_any v i new qs l (fits i l).0 (fits i l).1 w)
        in
        at_all v as' (suc i) (raise old new a) (adopt old new qs i a)
        (λ j. let k : i + suc j ≡ suc i + j = omega arith in tail (suc j) ∙ ap arc k) (omega arith)
        (λ j h. (rw (raise_one_length old new a) (fits j h).0, rw (adopt_length old new qs i a) (fits j h).1)) step

  -- what a pass comes to at v
  pub outcome : (n : ℕ) → Between arcs n → (k v : ℕ)
      → Outcome (sums arcs n k) (parents arcs n k) v (get_or (sums arcs n (suc k)) v None) (get_or (parents arcs n (suc k)) v None)
  unfolding sums pass parents
  outcome n between k v =
      at_all (sums arcs n k) (parents arcs n k) v arcs 0 (sums arcs n k) (parents arcs n k)
      (λ j. ap arc (sym (zero-add j))) (zero-add (length arcs))
      (λ j h. let l : (arc j).to < n = (between (arc j) (at_place arcs j no_arc h)).1 in
      (rw (sums_length arcs n k) l, rw (parents_length arcs n k) l)) same
