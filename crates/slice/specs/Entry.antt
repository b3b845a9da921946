-- An entry of the log in a plan slice: what the code that writes one leaves, on all input.
-- Assumes nothing.
use Rattle.std.specs.Prelude.{ℕ, ◌+◌, ◌&&◌, cond, List, leb, ltb, length, set}
use Rattle.words.specs.Words.{with_word}
use Rattle.schedule.specs.Book.{Report}
use Rattle.slice.specs.PlanSlice.{plan_need}

-- a report written as the n-th entry: its cart to its place from 196,608 on, its time from 200,704 on, which is 8 × 25,088; a slice without room
-- for that entry stays as it came
unfoldable pub with_entry : List ℕ → ℕ → Report → List ℕ
with_entry s n r =
    cond (leb plan_need (length s) && ltb n 4096) (with_word 8 (set s (196_608 + n) r.cart) (25_088 + n) r.time) s

-- Names every definition of this module, for a proof that computes with them all.
unfoldable pub open_entry : Unit {0}
unfolding with_entry
open_entry = tt
