-- `tables::paths::paths_from` meets its contract. The loop's invariant: the paths before stand in the array, and the records that are left say
-- what the whole does. Assumes nothing.
use native.Mathlib.Omega.{arith}
use Rattle.std.proofs.Common.{rules, ◌≡◌, refl, sym, ap, ◌∙◌, Err, Ok, ◌+◌}
use Rattle.floor.specs.declared.Table.TheVariants.{Paths}
use Rattle.std.proofs.iter.Serving.{serving}
use Rattle.tables.proofs.Turns.{refused_why}
use Rattle.tables.proofs.PathTurns.{first_path_turn, turn_count, last_path_turn, refused_path_turn, taken_path_turn}
use Rattle.tables.proofs.paths.paths_from.Goals as goal

pub loop-row-init : goal.loop-row-init
loop-row-init c = rw c.into_iter-row-iterator.ensures.into_iter_gives (refl, first_path_turn _ _ c.requires.1)

pub map_err-requires : goal.map_err-requires
map_err-requires c = let few = turn_count _ _ _ _ _ _ c.loop-row.invariant.1 in grind (serving, few)

pub returns-in_err-w : goal.returns-in_err-w
returns-in_err-w c =
    let (why, e, q) = refused_why _ c.take_path.result c.map_err.result c.map_err.ensures.cases _ c.in_err-w.was in
    let f : c.in_err-w.field-0.0 ≡ record { reason = why; table = Paths; row = c.loop-row.n + 1 } = search rules in
    let is : c.from_residual.result ≡ Err c.in_err-w.field-0.0 = search rules in
    let (the-answer, the-left) = refused_path_turn _ _ _ _ _ _ c.loop-row.invariant.1 _ _ c.in-Some.ensures.steps why _ (sym e ∙ c.take_path.ensures.answer) in
    record { answer = is ∙ ap Err f ∙ the-answer; left = the-left }

pub overflow_add-n : goal.overflow_add-n
overflow_add-n c = omega (arith, turn_count _ _ _ _ _ _ c.loop-row.invariant.1)

pub loop-row-preserved : goal.loop-row-preserved
loop-row-preserved c = let taken : c.take_path.result ≡ Ok c.in_ok-w.w = search rules in (
  c.take_path.auto.cells ∙ c.loop-row.invariant.0,
  taken_path_turn _ _ _ _ _ _ c.loop-row.invariant.1 _ _ c.in-Some.ensures.steps c.in_ok-w.w _ c.requires.0 c.loop-row.invariant.0 (sym taken ∙ c.take_path.ensures.answer) c.take_path.ensures.left,
)

pub returns : goal.returns
returns c =
    let (the-answer, the-left) = last_path_turn _ _ _ _ _ _ c.loop-row.invariant.1 c.in-None.ensures.steps.0 in
    record { answer = the-answer; left = the-left }
