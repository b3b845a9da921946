-- Every row follows from the definitions: computed from the bytes of its tables, with a timetable found quickly, which equals the defined one.
-- Assumes nothing.
use Rattle.std.specs.Prelude.{Option}
use mathlib.Core.Path.{◌≡◌, refl, subst, fun_ext}
use mathlib.Core.List.{◌++◌, map}
use Rattle.floor.specs.Plan.{Plan}
use Rattle.walks.proofs.Quick.{open_quick}
use Rattle.schedule.specs.Book.{Book}
use Rattle.schedule.specs.Timetable.{Timetable}
use Rattle.schedule.proofs.Quick.{quick_timetable, quick_timetable_is}
use Rattle.hegtalim.specs.Open.{open_hegtalim}
use Rattle.rows.specs.Row.{open_row, replies, follows, stated}
use Rattle.rows.specs.Starred.{open_starred, starred}
use Rattle.rows.specs.Further.{open_further, further}

pub rows_follow : map follows (starred ++ further) ≡ map stated (starred ++ further)
unfolding open_hegtalim open_quick quick_timetable open_row open_starred open_further
rows_follow =
    subst (λ (t : Plan → Book → Option Timetable). map (replies t) (starred ++ further) ≡ map stated (starred ++ further))
    (fun_ext (λ p. fun_ext (λ b. quick_timetable_is p b)))
    refl
