-- `tables::judge_paths` meets its contract, search by search. Assumes nothing.
use Rattle.std.proofs.Common.{◌∙◌, ap, Err}
use Rattle.tables.proofs.Found.{judged_off, judged_met, judged_kept}
use Rattle.tables.proofs.judge_paths.Goals as goal

pub returns-in-Some : goal.returns-in-Some
returns-in-Some c =
    let e = c.paths-paths.ensures in
    ap Err c.refuses.ensures ∙ judged_off _ c.paths-paths.result _ _ _ e.cells e.carts e.steps _ c.in-Some.ensures

-- two carts meet
pub returns-in-Some-first_meeting : goal.returns-in-Some-first_meeting
returns-in-Some-first_meeting c =
    let e = c.paths-paths.ensures in
    let x = c.in-Some-first_meeting in
    ap Err c.into.ensures ∙ judged_met _ c.paths-paths.result _ _ _ e.cells e.carts e.steps c.in_default.ensures c.requires.paths.1 _ x.ensures

-- neither
pub returns-in-None : goal.returns-in-None
returns-in-None c =
    let e = c.paths-paths.ensures in
    judged_kept _ c.paths-paths.result _ _ _ e.cells e.carts e.steps c.in_default.ensures c.requires.paths.1 c.in-None.ensures
