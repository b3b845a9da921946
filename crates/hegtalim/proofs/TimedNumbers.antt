-- What a timetable answers fits into the one number that a C function returns. Assumes nothing.
use Rattle.std.specs.Prelude.{Ok, Err}
use Prim.Native.Nat.{ℕ, ◌<◌}
use native.Mathlib.Omega.{arith}
use mathlib.Core.Path.{◌≡◌, sym, subst}
use mathlib.Core.List.{List}
use Rattle.network.proofs.Judged.{judged}
use Rattle.schedule.specs.Lent.{Lent}
use Rattle.schedule.proofs.Logged.{Logged}
use Rattle.schedule.proofs.Times.{timetable_counted}
use Rattle.schedule.proofs.ChainSizes.{chain_short}
use Rattle.hegtalim.specs.declared.TimeError.{TimeError}
use Rattle.hegtalim.specs.declared.answer.Answer.{Answer}
use Rattle.hegtalim.specs.Answers.{Timed, plain, timed_answer}
use Rattle.hegtalim.proofs.CNumbers.{Small}
use Rattle.hegtalim.specs.Outcomes.{Timetabled, too_short, no_plan, timed, no_times}
use Rattle.hegtalim.proofs.Timing.{logged}

-- the value is small: fewer passes than events, and no longer a chain
value_small : (s : List ℕ) (l l' : Lent) (x : Timed) → Timetabled s l x l' → (timed_answer x).value < 4_294_967_296
unfolding plain timed_answer
value_small s l l' x (too_short m) = omega arith
value_small s l l' x (no_plan m e) = omega arith
value_small s l l' x (timed m h e t q) =
    let g : Logged h.plan h.book = logged s h e l m in
    omega (arith, (judged g.tables h.plan g.of_tables).1, (timetable_counted h.plan h.book g t q).1)
value_small s l l' x (no_times m h e q is c) =
    let g : Logged h.plan h.book = logged s h e l m in
    omega (arith, (judged g.tables h.plan g.of_tables).1, chain_short h.plan h.book g is c)

-- and refusal and table are
pub timed_small : (s : List ℕ) (l l' : Lent) (x : Timed) → Timetabled s l x l' → (a : Answer) → a ≡ timed_answer x → Small a
unfolding timed_answer plain
timed_small s l l' x t a e = subst Small (sym e) ((bytes x).0, (bytes x).1, value_small s l l' x t)
  where
    bytes : (y : Timed) → ((timed_answer y).refusal < 256) × ((timed_answer y).table < 256)
    bytes (Ok k) = (omega arith, omega arith)
    bytes (Err TimeError.TooShort) = (omega arith, omega arith)
    bytes (Err TimeError.NoPlan) = (omega arith, omega arith)
    bytes (Err (TimeError.NoTimes n)) = (omega arith, omega arith)
