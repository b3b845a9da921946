-- Which times fit (demand 3).
-- Assumes nothing.
use Rattle.std.specs.Prelude.{ℕ, ◌≡◌, pos, ◌≤ℤ◌}
use mathlib.Core.List.{Memᴰ}
use Rattle.floor.specs.Plan.{Plan}
use Rattle.network.specs.Bounds.{bounds}
use Rattle.network.specs.Meaning.{Times, MeetsAll}
use Rattle.schedule.specs.Book.{Book, Passed, passed_points, points_to_pass}

-- "Times fit when they are whole milliseconds, start at 0, meet every bound, agree with every report accepted in the list and put no point still to be passed before the latest of these."
pub record Fits (p : Plan) (b : Book) (t : Times) : Type 0 where
  pub starts : t 0 ≡ pos 0
  pub meets : MeetsAll t (bounds p)
  pub agrees : (x : Passed) → Memᴰ x (passed_points p b) → t x.event ≡ pos x.time
  pub after_clock : (e : ℕ) → Memᴰ e (points_to_pass p b) → pos b.clock ≤ℤ t e
