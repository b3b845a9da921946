-- The last limits of a plan that was read, as the code finds them from its paths in an array. Assumes nothing.
use Rattle.std.proofs.lemmas.Bool.Decides.{nat_tests}
use Rattle.std.specs.Prelude.{Err, Ok}
use Prim.Native.Nat.{ℕ, ◌*◌, ◌≤◌}
use native.Mathlib.Omega.{arith}
use mathlib.Core.Path.{◌≡◌, ap, sym, ◌∙◌, subst}
use mathlib.Core.Bool.{Bool, true, false, ◌&&◌}
use mathlib.Core.List.{List}
use lib.Dec.{leb}
use lib.ListN.{length}
use borrow.Author.Tests.{le-leb}
use Rattle.words.specs.Words.{padded}
use Rattle.words.proofs.Padding.{padded_length}
use Rattle.floor.specs.declared.Reason.TheVariants.{Limit}
use Rattle.floor.specs.declared.Table.TheVariants.{Paths}
use Rattle.floor.specs.Refusal.{◌>>=◌, need}
use Rattle.floor.specs.Plan.{Plan}
use Rattle.floor.specs.Paths.{steps}
use Rattle.floor.specs.Tables.{Tables, read_tables}
use Rattle.tables.specs.Arrays.{path_cells, paths_in}
use Rattle.floor.proofs.Accepted.{Sound, accepted_sound, Even, accepted_even}
use Rattle.tables.proofs.PathTurns.{even_held, even_cells}
use Rattle.network.specs.Judge.{within_limits}
use Rattle.limits.specs.Limits.{of_paths, limits_kept, paths_within}
use Rattle.limits.proofs.Counts.{limits_by_paths}

-- a plan that keeps the limits is accepted
pub within_kept : (p : Plan) → limits_kept p ≡ true → within_limits p ≡ Ok p
unfolding limits_kept within_limits need ◌>>=◌
within_kept p e = grind (arith, nat_tests)

-- one that does not is refused, for events and bounds alike
pub within_over : (p : Plan) → limits_kept p ≡ false → within_limits p ≡ Err (record { reason = Limit; table = Paths; row = 0 })
unfolding limits_kept within_limits need ◌>>=◌
within_over p e = grind (arith, nat_tests)

-- what is found of a plan's paths in an array is so of the plan
pub paths_within_is : (ts : Tables) (p : Plan) → read_tables ts ≡ Ok p → (size : ℕ) → 8192 ≤ size
    → paths_within (length p.carts) (steps p.paths) (padded size (path_cells p.paths)) ≡ limits_kept p
unfolding paths_within
paths_within_is ts p e size h =
    let sound : Sound p = accepted_sound ts p e in
    let even : Even p.paths = accepted_even ts p e in
    let n : ℕ = length p.carts in
    let w : ℕ = steps p.paths in
    let s : List ℕ = padded size (path_cells p.paths) in
    let count : length p.paths ≡ n = sound.path_each in
    let cells : n * w ≤ 8192 = subst (λ (x : ℕ). x * w ≤ 8192) count even.few_cells in
    let long : length s ≡ size = padded_length size (path_cells p.paths) (omega (arith, even_cells p.paths even, even.few_cells)) in
    let held : paths_in n w s ≡ p.paths = ap (λ (x : ℕ). paths_in x w s) (sym count) ∙ even_held size p.paths even in
    ap (λ (b : Bool). b && leb w 1024 && leb (n * w) (length s) && limits_kept (of_paths (paths_in n w s))) (le-leb n 64 sound.few_carts)
    ∙ ap (λ (b : Bool). b && leb (n * w) (length s) && limits_kept (of_paths (paths_in n w s))) (le-leb w 1024 even.few_steps)
    ∙ ap (λ (b : Bool). b && limits_kept (of_paths (paths_in n w s))) (le-leb (n * w) (length s) (omega (arith, cells, long)))
    ∙ ap (λ (x : List (List ℕ)). limits_kept (of_paths x)) held
    ∙ sym (limits_by_paths p (sym count))
