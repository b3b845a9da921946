-- The claim speaks of the proved functions: what the contract of each says of its arguments, its answer and the slices at exit, `Post` as the checker
-- reads it from the source, is a step of the claim. Assumes nothing.
use contract.Lifetimes as Lifetimes
use borrow.Fn.World as World
use borrow.Fn.Kinds as Kinds
use denote.Triple.Clauses as Clauses
use Rattle.std.specs.Prelude.{Ok}
use Prim.Native.Nat.{ℕ}
use mathlib.Core.Path.{◌≡◌, sym, ◌∙◌, subst}
use mathlib.Core.List.{List}
use Rattle.schedule.specs.Book.{Report, ◌at◌}
use Rattle.tables.specs.Lending.{tables_of}
use Rattle.passes.specs.Lending.{lent_of}
use Rattle.hegtalim.specs.Answers.{Reported}
use Rattle.hegtalim.specs.Outcomes.{report, Timetabled}
use Rattle.hegtalim.specs.Claim.{Call, reporting, timing, Reply, reported, timed, Replies, to_report, to_timetable, Played, Holds}
use Rattle.hegtalim.proofs.Claim.{demand_3}
use Rattle.hegtalim.specs.contracts.load as load_fn
use Rattle.hegtalim.proofs.load.Kinds as load-kinds
use Rattle.hegtalim.proofs.load.Reads as load-reads
use Rattle.hegtalim.specs.contracts.report as report-fn
use Rattle.hegtalim.proofs.report.Kinds as report-kinds
use Rattle.hegtalim.proofs.report.Reads as report-reads
use Rattle.hegtalim.specs.contracts.timetable as timetable-fn
use Rattle.hegtalim.proofs.timetable.Kinds as timetable-kinds
use Rattle.hegtalim.proofs.timetable.Reads as timetable-reads

-- a report's answer and the plan slice that it leaves are those of the claim
pub report_replies : (κs : Lifetimes.Lfts 1) (a : World.ArgsD report-fn.signature κs) (r : World.ResD report-fn.signature κs)
    (s : Clauses.AtExit (Kinds.ended_of 1 report-kinds.ps report-kinds.r) κs) → report-reads.Post κs a r s
    → Replies a.0.now (reporting (a.1.0 at a.1.1.0)) (reported r) s.0.now
report_replies κs a r s p =
    let before : List ℕ = a.0.now in
    let named : Report = a.1.0 at a.1.1.0 in
    subst (λ (x : Reported). Replies before (reporting named) (reported x) s.0.now) (sym p.0)
    (subst (λ (x : List ℕ). Replies before (reporting named) (reported (report before named).answer) x) (sym p.1) (to_report before named))

-- a timetable's are in the relation that the claim speaks of, as it stands
pub timetable_outcome : (κs : Lifetimes.Lfts 3) (a : World.ArgsD timetable-fn.signature κs) (r : World.ResD timetable-fn.signature κs)
    (s : Clauses.AtExit (Kinds.ended_of 3 timetable-kinds.ps timetable-kinds.r) κs) → timetable-reads.Post κs a r s
    → Timetabled a.0.now (lent_of a.1.0.now) r (lent_of s.1.0.now)
timetable_outcome κs a r s p = p.0

-- so it is a step of the claim, which leaves the plan slice as it came: the function gets it for reading alone
pub timetable_replies : (κs : Lifetimes.Lfts 3) (a : World.ArgsD timetable-fn.signature κs) (r : World.ResD timetable-fn.signature κs)
    (s : Clauses.AtExit (Kinds.ended_of 3 timetable-kinds.ps timetable-kinds.r) κs) → timetable-reads.Post κs a r s
    → Replies a.0.now (timing (lent_of a.1.0.now)) (timed r) a.0.now
timetable_replies κs a r s p = to_timetable a.0.now (lent_of a.1.0.now) (lent_of s.1.0.now) r (timetable_outcome κs a r s p)

-- demand 3 from a call of `load` on: it has answered that the plan is held
pub after_load : (κs : Lifetimes.Lfts 2) (a : World.ArgsD load_fn.signature κs) (r : World.ResD load_fn.signature κs)
    (s : Clauses.AtExit (Kinds.ended_of 2 load-kinds.ps load-kinds.r) κs) → load-reads.Post κs a r s → r ≡ (Ok tt)
    → (calls : List Call) (replies : List Reply) (last : List ℕ) → Played s.1.0.now calls replies last
    → Holds (tables_of a.0) calls replies last
after_load κs a r s p e calls replies last run =
    demand_3 (tables_of a.0) a.1.0.now (sym p.0 ∙ e) calls replies last (subst (λ (x : List ℕ). Played x calls replies last) p.1 run)
