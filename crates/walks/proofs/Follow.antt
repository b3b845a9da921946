-- Following parents one step at a time, as a loop does: where one step more leads, the arc that it adds to the trail, and what it adds. Assumes nothing.
use Rattle.std.specs.Prelude.{Option, None, Some}
use Prim.Native.Nat.{ℕ, zero, suc}
use mathlib.Core.Path.{◌≡◌, refl, ap, sym, ◌∙◌}
use mathlib.Core.List.{List, [], ◌∷◌, ◌++◌}
use lib.IntN.{pos, ◌+ℤ◌}
use lib.ListN.{get_or}
use Rattle.laws.proofs.Options.{none-ne-some}
use Rattle.laws.proofs.Signed.{signed, sum}
use Rattle.walks.specs.Walks.{Arc}
use Rattle.walks.specs.Solutions.{total}
use Rattle.walks.specs.Parents.{Parents, no_arc, before, repeated, steps_back, trail}
use Rattle.walks.proofs.Parents.{back_at, trail_at}

-- one step more, at the end
pub repeated_suc : (g : ℕ → ℕ) (j v : ℕ) → repeated g (suc j) v ≡ g (repeated g j v)
unfolding repeated
repeated_suc g zero v = refl
repeated_suc g (suc j) v = repeated_suc g j (g v)

pub total_snoc : (l : List Arc) (a : Arc) → total (l ++ (a ∷ [])) ≡ total l +ℤ a.adds
unfolding total
total_snoc [] a = omega (signed, sum a.adds (pos 0), sum (pos 0) a.adds)
total_snoc (b ∷ l) a =
    let e : total (l ++ (a ∷ [])) ≡ total l +ℤ a.adds = total_snoc l a in
    omega (signed, sum b.adds (total (l ++ (a ∷ []))), sum (total l) a.adds, sum b.adds (total l), sum (b.adds +ℤ total l) a.adds)

module _ (arcs : List Arc) (ps : Parents) where
  -- it leads to where the parent of the event reached begins
  pub back_suc : (j v i : ℕ) → get_or ps (steps_back arcs ps j v) None ≡ Some i → steps_back arcs ps (suc j) v ≡ (get_or arcs i no_arc).from
  unfolding before
  back_suc j v i e = repeated_suc (before arcs ps) j v ∙ ap (λ (o : Option ℕ). elim o [ None ↦ steps_back arcs ps j v | Some x ↦ (get_or arcs x no_arc).from ]) e

  -- an event without a parent is never left
  stuck : (j v : ℕ) → get_or ps v None ≡ None → steps_back arcs ps j v ≡ v
  unfolding repeated before
  stuck zero v e = refl
  stuck (suc j) v e = ap (λ (o : Option ℕ). steps_back arcs ps j (elim o [ None ↦ v | Some x ↦ (get_or arcs x no_arc).from ])) e ∙ stuck j v e

  -- and adds that parent to the trail
  pub trail_suc : (j v i : ℕ) → get_or ps (steps_back arcs ps j v) None ≡ Some i → trail arcs ps (suc j) v ≡ trail arcs ps j v ++ (get_or arcs i no_arc ∷ [])
  unfolding trail repeated
  trail_suc zero v i e = trail_at arcs ps 0 v i e
  trail_suc (suc j) v i e = by (get_or ps v None) refl (λ u. trail_suc j u i)
    where
      by : (o : Option ℕ) → get_or ps v None ≡ o
          → ((u : ℕ) → get_or ps (steps_back arcs ps j u) None ≡ Some i → trail arcs ps (suc j) u ≡ trail arcs ps j u ++ (get_or arcs i no_arc ∷ []))
          → trail arcs ps (suc (suc j)) v ≡ trail arcs ps (suc j) v ++ (get_or arcs i no_arc ∷ [])
      by None q more = absurd (none-ne-some _ (sym (ap (λ (u : ℕ). get_or ps u None) (stuck (suc j) v q) ∙ q) ∙ e))
      by (Some x) q more =
          let u : ℕ = (get_or arcs x no_arc).from in
          trail_at arcs ps (suc j) v x q
          ∙ ap (λ (l : List Arc). get_or arcs x no_arc ∷ l) (more u (ap (λ (w : ℕ). get_or ps w None) (sym (back_at arcs ps j v x q)) ∙ e))
          ∙ ap (λ (l : List Arc). l ++ (get_or arcs i no_arc ∷ [])) (sym (trail_at arcs ps j v x q))
