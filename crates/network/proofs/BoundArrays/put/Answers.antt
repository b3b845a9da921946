-- `network::BoundArrays::put` meets its contract: each array takes its two numbers. Assumes nothing.
use Rattle.std.specs.Prelude.{ℕ, ◌*◌, ◌∷◌, []}
use mathlib.Core.Path.{◌≡◌, refl, ap, ◌∙◌}
use mathlib.Core.List.{flat_map}
use lib.Seq.{sets}
use Rattle.std.proofs.Common.{rules}
use Rattle.network.specs.BoundArrays.{bound_ends, bound_range, hi_number, hi_kept}
use Rattle.network.proofs.BoundArrays.put.Goals as goal

pub returns-then-self-min : goal.returns-then-self-min
unfolding bound_ends bound_range hi_number hi_kept flat_map
returns-then-self-min c =
    let a = c.args in
    let after : c.map_or-after.result ≡ hi_number (hi_kept a.bound.hi) = search rules in
    record {
      same_ends = refl;
      same_ranges = refl;
      ends = c.put_both.ensures;
      ranges = c.put_both-then-self-min.ensures ∙ ap (λ (n : ℕ). sets a.self.now.ranges.now (2 * a.self.now.place) (a.bound.lo ∷ n ∷ [])) after;
      place = search rules;
    }

pub returns : goal.returns
unfolding bound_ends bound_range hi_number hi_kept flat_map
returns c =
    let a = c.args in
    let after : c.map_or-after.result ≡ hi_number (hi_kept a.bound.hi) = search rules in
    record {
      same_ends = refl;
      same_ranges = refl;
      ends = c.put_two.ensures;
      ranges = c.put_two-2.ensures ∙ ap (λ (n : ℕ). sets a.self.now.ranges.now (2 * a.self.now.place) (a.bound.lo ∷ n ∷ [])) after;
      place = c.saturating_add-self.ensures;
    }
