-- `next` of a `Reader` meets the contract of an iterator: the first record and those of the rest. Assumes nothing.
use Rattle.std.proofs.Common.{rules, ◌≡◌, ◌-◌, ◌∷◌, length, take, drop}
use Rattle.rfc4180.specs.Records.{records}
use Rattle.rfc4180.proofs.Reading.{records_over, records_behind}
use Rattle.rfc4180.proofs.ReaderIterator.next.Goals as goal
use Rattle.rfc4180.proofs.ReaderIterator.next.Goals.{After-min-behind}

pub returns-then-is_empty-clause-steps : goal.returns-then-is_empty-clause-steps
returns-then-is_empty-clause-steps c = let e = records_over c.args.self.now.rest.now (search rules) in (e, e)

-- a record, and those that are left
first : (c : After-min-behind) → let s = c.args.self.now.rest.now in let k = c.min-behind.result in
    records s ≡ c.first_record-row.result.now ∷ records (take (length s - k) (drop k s))
first c = records_behind c.args.self.now.rest.now _ _ (search rules) c.first_record-row.ensures c.min-behind.ensures

pub returns-clause-steps : goal.returns-clause-steps
returns-clause-steps c = first (goal.at.returns-clause-steps c).After-min-behind

pub returns-clause-goes : goal.returns-clause-goes
returns-clause-goes c = let e = first (goal.at.returns-clause-goes c).After-min-behind in search rules
