-- The plan slice: the tables as handed in, and the log of accepted reports (docs/DECISIONS.md, "The plan slice").
-- Assumes nothing.
use Rattle.std.specs.Prelude.{ℕ, ◌+◌, ◌*◌, Bool, true, false, List, [], ◌∷◌, ◌++◌, map, eqb, length, take, drop, Option, None, Some, Err, Ok}
use Rattle.words.specs.Words.{words, padded}
use Rattle.rfc4180.specs.Text.{same}
use Rattle.floor.specs.Refusal.{Judged}
use Rattle.floor.specs.Plan.{Plan}
use Rattle.floor.specs.Tables.{Tables}
use Rattle.network.specs.Judge.{judge}
use Rattle.schedule.specs.Book.{Report, Book, first_book, replay}
use Rattle.book.specs.Log.{entries}

-- "docs/ lists each need": a plan slice's is 233,472 places, three tables, the carts of the log and its times
abbrev pub plan_need : ℕ
plan_need = 3 * 65_536 + 4096 + 8 * 4096

-- what a held plan's slice of n places holds: the three tables, 65,536 places each; the carts of the reports accepted, one place each, 4,096 in
-- all; their times, eight places each, 32,768 in all; zeros to the end
unfoldable pub plan_slice : ℕ → Tables → List Report → List ℕ
plan_slice n ts log =
    padded n
    (padded 65_536 ts.roads
    ++ (padded 65_536 ts.carts
    ++ (padded 65_536 ts.paths
    ++ (padded 4096 (map (λ (r : Report). r.cart) log)
    ++ padded 32_768 (words 8 (map (λ (r : Report). r.time) log))))))

-- the bytes before the first zero: no accepted table has a zero byte, and carts count from 1
unfoldable pub until_zero : List ℕ → List ℕ
until_zero [] = []
until_zero (b ∷ bs) = elim (eqb b 0) [ true ↦ [] | false ↦ b ∷ until_zero bs ]

-- the tables that a plan slice holds
unfoldable pub tables_in : List ℕ → Tables
tables_in s =
    record {
      roads = until_zero (take 65_536 s);
      carts = until_zero (take 65_536 (drop 65_536 s));
      paths = until_zero (take 65_536 (drop 131_072 s));
    }

-- the log that a plan slice holds
unfoldable pub log_in : List ℕ → List Report
log_in s = entries (until_zero (take 4096 (drop 196_608 s))) (drop 200_704 s)

-- a plan held: the tables and the log in its slice, and the plan and the book that they come to
pub record Held : Type 0 where
  pub tables : Tables
  pub log : List Report
  pub plan : Plan
  pub book : Book

-- the slice holds these tables and this log, and nothing else
unfoldable pub nothing_else : List ℕ → Tables → List Report → Bool
nothing_else s ts log = same (plan_slice (length s) ts log) s

-- what the slice s holds, if the tables and the log in it are these and the tables are judged so
unfoldable pub held_by : List ℕ → Tables → List Report → Judged Plan → Option Held
held_by s ts log (Err r) = None
held_by s ts log (Ok p) =
    elim (replay p (first_book p) log) [
      | None ↦ None
      | Some b ↦ elim (nothing_else s ts log) [ true ↦ Some (record { tables = ts; log = log; plan = p; book = b }) | false ↦ None ]
    ]

-- the plan that a slice holds, if it holds what an accepted load, with accepted reports since, leaves: the tables in it are accepted, so is each
-- report of the log in its turn, and there is nothing else (`Claim.Refusal10` states it)
unfoldable pub held : List ℕ → Option Held
held s =
    let ts : Tables = tables_in s in
    let log : List Report = log_in s in
    held_by s ts log (judge ts)

-- Names every definition of this module, for a proof that computes with them all.
unfoldable pub open_plan_slice : Unit {0}
unfolding plan_slice until_zero tables_in log_in nothing_else held_by held
open_plan_slice = tt
