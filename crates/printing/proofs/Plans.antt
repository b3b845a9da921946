-- The times of the plan that a slice holds, from its paths in an array. Assumes nothing.
use Rattle.std.specs.Prelude.{Some}
use Prim.Native.Nat.{ℕ, ◌+◌, ◌*◌, ◌≤◌}
use native.Mathlib.Omega.{arith}
use mathlib.Core.Path.{◌≡◌, ap, ap₂, sym, ◌∙◌, subst}
use mathlib.Core.List.{List}
use lib.ListN.{length}
use Rattle.laws.proofs.Options.{some-injective}
use Rattle.words.proofs.Padding.{padded_length}
use Rattle.floor.specs.Plan.{Plan}
use Rattle.floor.proofs.Accepted.{Sound, Even, accepted_even}
use Rattle.tables.specs.Arrays.{path_cells, paths_in}
use Rattle.tables.proofs.PathTurns.{even_cells}
use Rattle.network.specs.Events.{event_count}
use Rattle.network.proofs.Judged.{judged}
use Rattle.limits.specs.Counts.{total}
use Rattle.limits.specs.OfPaths.{moves_of}
use Rattle.collisions.specs.declared.Paths.{Paths}
use Rattle.collisions.specs.Meetings.{paths_of}
use Rattle.floor.specs.Paths.{steps}
use Rattle.limits.proofs.Counts.{path_points, events_are}
use Rattle.limits.proofs.LimitSteps.{all_events}
use Rattle.tables.specs.Reading.{Arrays}
use Rattle.slice.specs.declared.Holding.{Holding}
use Rattle.slice.specs.PlanSlice.{Held, held}
use Rattle.slice.specs.HeldPlan.{Holds}
use Rattle.slice.proofs.HeldPlan.{accepted_there, read_there, sound, paths_there, some_steps}
use Rattle.printing.specs.Text.{times_text}
use Rattle.printing.specs.Lines.{lines_text}
use Rattle.printing.proofs.EventTexts.{text_is}

-- paths in an array, those of the plan that the slice s holds: they are there, their events are no more than may be, and their text is the plan's
pub record HeldPaths (s : List ℕ) (x : Paths) : Type 0 where
  pub cells : (1 ≤ x.steps) × (x.carts * x.steps ≤ length x.cells.now)
  pub few : 2 + x.carts + 3 * moves_of x ≤ 4096
  pub text : (time : ℕ → ℕ) (g : Held) → held s ≡ Some g → lines_text time (1 + (x.carts + 3 * moves_of x)) (paths_of x) ≡ times_text g.plan time

module _ (s : List ℕ) (a : Arrays) (n : Holding) (h : Holds s a n) (x : Paths) (ec : x.cells.now ≡ a.cells) (en : x.carts ≡ n.size.carts) (ew : x.steps ≡ n.size.steps) where
  abbrev plan : Plan
  plan = h.plan_held.plan

  its_sound : Sound plan
  its_sound = sound s a n h

  carts_are : x.carts ≡ length plan.carts
  carts_are = en ∙ h.carts_are

  steps_are : x.steps ≡ steps plan.paths
  steps_are = ew ∙ h.steps_are

  -- the paths are the plan's
  its_paths : paths_of x ≡ plan.paths
  its_paths = ap₂ (λ (i j : ℕ). paths_in i j x.cells.now) en ew ∙ ap (paths_in n.size.carts n.size.steps) ec ∙ paths_there s a n h

  even : Even plan.paths
  even = accepted_even h.plan_held.tables plan (read_there s a n h)

  -- its paths are in the array
  array_there : (1 ≤ x.steps) × (x.carts * x.steps ≤ length x.cells.now)
  array_there =
      let few : length (path_cells plan.paths) ≤ 8192 = omega (arith, even_cells plan.paths even, even.few_cells) in
      let long : length x.cells.now ≡ 8192 = ap length (ec ∙ h.cells_are) ∙ padded_length 8192 (path_cells plan.paths) few in
      let count : length plan.paths ≡ x.carts = its_sound.path_each ∙ sym carts_are in
      let most : x.carts * x.steps ≤ 8192 = subst (λ (i : ℕ). i * x.steps ≤ 8192) count (subst (λ (i : ℕ). length plan.paths * i ≤ 8192) (sym steps_are) even.few_cells) in
      (omega (arith, ew, some_steps s a n h), omega arith)

  -- how many events it has
  counted : event_count plan ≡ 2 + x.carts + 3 * moves_of x
  counted =
      omega (
        arith,
        events_are plan (sym its_sound.path_each),
        ap (total path_points) (sym its_paths),
        all_events x.carts x.steps x.cells.now array_there.0 array_there.1,
      )

  -- no more than may be
  events_few : 2 + x.carts + 3 * moves_of x ≤ 4096
  events_few = omega (arith, counted, (judged h.plan_held.tables plan (accepted_there s a n h)).1)

  -- the text of the paths is that of the plan
  same_text : (time : ℕ → ℕ) → lines_text time (1 + (x.carts + 3 * moves_of x)) (paths_of x) ≡ times_text plan time
  same_text time =
      let finish : ℕ = 1 + (x.carts + 3 * moves_of x) in
      ap (lines_text time finish) its_paths ∙ text_is time plan (sym its_sound.path_each) finish (omega (arith, counted))

  pub held_paths : HeldPaths s x
  held_paths =
      record {
        cells = array_there;
        few = events_few;
        text = λ time g e. same_text time ∙ ap (λ (y : Held). times_text y.plan time) (some-injective _ _ (sym h.of_slice ∙ e));
      }
