-- The answers' numbers, the needs, and calls that are turned down before the tables are read. Assumes nothing.
use Rattle.std.specs.Prelude.{None, Some, Ok, Err}
use mathlib.Core.Path.{◌≡◌, refl}
use mathlib.Core.List.{[], ◌∷◌, map}
use lib.ListN.{replicate}
use Rattle.floor.specs.declared.Reason.TheVariants.{Layout, Range, RoadPair, Limit, NoCarts, PathCount, OffRoad, SameCell, Exchange}
use Rattle.floor.specs.declared.Reason.{Reason}
use Rattle.floor.specs.declared.Table.TheVariants.{Roads, Carts, Paths}
use Rattle.floor.specs.Plan.{Plan}
use Rattle.floor.specs.Tables.{Tables}
use Rattle.schedule.specs.Book.{Report, ◌at◌}
use Rattle.tables.specs.declared.ReadError.{ReadError as LoadError}
use Rattle.hegtalim.specs.declared.ReportError.{ReportError}
use Rattle.hegtalim.specs.declared.TimeError.{TimeError}
use Rattle.schedule.specs.Open.{open_schedule}
use Rattle.hegtalim.specs.Answers.{open_answers, loaded_answer, reported_answer, timed_answer, c_number}
use Rattle.slice.specs.PlanSlice.{plan_slice}
use Rattle.schedule.specs.Lent.{Lent}
use Rattle.hegtalim.specs.Outcomes.{open_outcomes, load, load_judged, report, report_held, Timetabled, too_short}

-- each reason has the document's number
reasons_follow : map (λ (why : Reason). (loaded_answer (Err (LoadError.Refused (record { reason = why; table = Paths; row = 7 })))).refusal)
    (Layout ∷ Range ∷ RoadPair ∷ Limit ∷ NoCarts ∷ PathCount ∷ OffRoad ∷ SameCell ∷ Exchange ∷ [])
    ≡ 1 ∷ 2 ∷ 3 ∷ 4 ∷ 5 ∷ 6 ∷ 7 ∷ 8 ∷ 9 ∷ []
unfolding open_schedule open_answers
reasons_follow = refl

-- and each answer its one number at the C boundary
answers_follow : map c_number
    (loaded_answer (Ok tt) ∷ loaded_answer (Err LoadError.TooShort) ∷ loaded_answer (Err (LoadError.Refused (record { reason = Range; table = Carts; row = 3 })))
    ∷ reported_answer (Ok tt) ∷ reported_answer (Err ReportError.TooShort) ∷ reported_answer (Err ReportError.NoPlan) ∷ reported_answer (Err ReportError.NoPoint) ∷ reported_answer (Err ReportError.BadTime)
    ∷ timed_answer (Ok 14) ∷ timed_answer (Err TimeError.TooShort) ∷ timed_answer (Err TimeError.NoPlan) ∷ timed_answer (Err (TimeError.NoTimes 12)) ∷ [])
    ≡ 0 ∷ 14 ∷ 0x3_0000_0202 ∷ 0 ∷ 14 ∷ 10 ∷ 11 ∷ 12 ∷ 0xe_0000_0000 ∷ 14 ∷ 10 ∷ 0xc_0000_000d ∷ []
unfolding open_schedule open_answers
answers_follow = refl

-- two carts that stay where they are, a third that moves once
plan : Plan
plan =
    record {
      roads = record { from = 0; to = 1; length = 1_000_000; margin = 250_000 } ∷ [];
      carts = record { fastest = 1000; slowest = None } ∷ record { fastest = 1000; slowest = None } ∷ record { fastest = 1000; slowest = None } ∷ [];
      paths = (5 ∷ 5 ∷ []) ∷ (6 ∷ 6 ∷ []) ∷ (0 ∷ 1 ∷ []) ∷ [];
    }

-- "14 and 10 to 12 change nothing at all"; a refused load zeroes its slice
nothing : Tables
nothing = record { roads = []; carts = []; paths = [] }

left_follows : load nothing (9 ∷ 9 ∷ []) ≡ record { answer = (Err LoadError.TooShort); plan = 9 ∷ 9 ∷ [] }
unfolding open_outcomes nothing
left_follows = refl

zeroed : load_judged nothing 3 (Err (record { reason = SameCell; table = Paths; row = 2 }))
    ≡ record { answer = Err (LoadError.Refused (record { reason = SameCell; table = Paths; row = 2 })); plan = 0 ∷ 0 ∷ 0 ∷ [] }
unfolding open_outcomes
zeroed = refl

reports_follow : report (9 ∷ []) (3 at 20) ∷ report_held (9 ∷ []) (3 at 20) None
    ∷ map (λ (r : Report). report_held (9 ∷ []) r (Some (record { tables = nothing; log = []; plan = plan; book = record { clock = 10; passed = (0 ∷ []) ∷ (0 ∷ []) ∷ (0 ∷ []) ∷ [] } })))
    ((4 at 9) ∷ (1 at 20) ∷ (3 at 9) ∷ (3 at 20) ∷ [])
    ≡ record { answer = (Err ReportError.TooShort); plan = 9 ∷ [] }
    ∷ record { answer = (Err ReportError.NoPlan); plan = 9 ∷ [] }
    ∷ record { answer = (Err ReportError.NoPoint); plan = 9 ∷ [] }
    ∷ record { answer = (Err ReportError.NoPoint); plan = 9 ∷ [] }
    ∷ record { answer = (Err ReportError.BadTime); plan = 9 ∷ [] }
    ∷ record { answer = (Ok tt); plan = plan_slice 1 nothing ((3 at 20) ∷ []) }
    ∷ []
unfolding open_schedule open_outcomes plan nothing
reports_follow = refl

-- slices of nines
lent : Lent
lent = record { times = replicate 18 9; chain_bounds = replicate 5 9; chain_directions = replicate 3 9 }

-- "14: a lent slice shorter than the limits above need": a plan slice at its need, and one place short of it
plan_need_follows : (load nothing (replicate 233_471 9)).answer ∷ (load nothing (replicate 233_472 9)).answer ∷ []
    ≡ (Err LoadError.TooShort) ∷ Err (LoadError.Refused (record { reason = Layout; table = Roads; row = 0 })) ∷ []
unfolding open_schedule open_outcomes nothing
plan_need_follows = refl

-- and a timetable that is a 14 leaves its slices as they came
short_follows : Timetabled (9 ∷ []) lent (Err TimeError.TooShort) lent
unfolding open_outcomes
short_follows = too_short refl
