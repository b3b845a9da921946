-- Slices that meet their needs, and times read back from them. Assumes nothing.
use Rattle.std.specs.Prelude.{Some}
use Prim.Native.Nat.{ℕ, ◌^◌, ◌≤◌, ◌<◌}
use native.Mathlib.Omega.{arith}
use mathlib.Core.Path.{◌≡◌, sym, subst}
use mathlib.Core.Bool.{◌&&◌}
use lib.Dec.{T, leb, leb→le, le→leb, lit≤}
use lib.ListN.{length, drop, get_or}
use mir.Facts.{and_yes, yes_and}
use Rattle.words.specs.Words.{words, word_at, written}
use Rattle.words.proofs.Reading.{word_at_words}
use Rattle.floor.specs.Plan.{Plan}
use Rattle.network.specs.Events.{event_count}
use Rattle.schedule.specs.Book.{Book}
use Rattle.schedule.specs.Timetable.{Timetable, timetable}
use Rattle.schedule.specs.Lent.{Lent, times_need, chain_bounds_need, chain_directions_need, long_enough, times_written}
use Rattle.schedule.proofs.Logged.{Logged}
use Rattle.schedule.proofs.Times.{timetable_length, timetable_range}

-- they have room
pub record Room (l : Lent) : Type 0 where
  pub times_long : times_need ≤ length l.times
  pub bounds_long : chain_bounds_need ≤ length l.chain_bounds
  pub directions_long : chain_directions_need ≤ length l.chain_directions

-- as the test says
pub room : (l : Lent) → T (long_enough l) → Room l
unfolding long_enough
room l t =
    let (a, d) = and_yes (leb times_need (length l.times) && leb chain_bounds_need (length l.chain_bounds)) (leb chain_directions_need (length l.chain_directions)) t in
    let (s, b) = and_yes (leb times_need (length l.times)) (leb chain_bounds_need (length l.chain_bounds)) a in
    record {
      times_long = leb→le times_need (length l.times) s;
      bounds_long = leb→le chain_bounds_need (length l.chain_bounds) b;
      directions_long = leb→le chain_directions_need (length l.chain_directions) d;
    }

pub room_passes : (l : Lent) → Room l → T (long_enough l)
unfolding long_enough
room_passes l r =
    yes_and (leb times_need (length l.times) && leb chain_bounds_need (length l.chain_bounds)) (leb chain_directions_need (length l.chain_directions))
    (yes_and (leb times_need (length l.times)) (leb chain_bounds_need (length l.chain_bounds))
    (le→leb times_need (length l.times) r.times_long) (le→leb chain_bounds_need (length l.chain_bounds) r.bounds_long))
    (le→leb chain_directions_need (length l.chain_directions) r.directions_long)

-- the times written are read back
pub times_back : (p : Plan) (b : Book) → Logged p b → (t : Timetable) → timetable p b ≡ Some t → (l : Lent) (v : ℕ) → v < event_count p
    → word_at 8 (times_written t l).times v ≡ get_or t.times v 0
unfolding times_written written
times_back p b k t e l v h =
    let most : 4_096_000_000_000_000 < 256 ^ 8 = lit≤ tt in
    let few : get_or t.times v 0 ≤ 4_096_000_000_000_000 = timetable_range p b k t e v h in
    word_at_words 8 t.times (drop (length (words 8 t.times)) l.times) v (subst (λ (x : ℕ). v < x) (sym (timetable_length p b k t e)) h) (omega (arith, few, most))
