-- `collisions::first_meeting` meets its contract, search by search. Assumes nothing.
use Rattle.std.proofs.Common.{rules, ◌≡◌, ◌∙◌, ap, sym, ◌*◌, ◌≤◌, length, option_map}
use borrow.Author.Tests.{leb-true}
use Rattle.floor.specs.Paths.{first_exchange}
use Rattle.collisions.specs.declared.Meeting.{Meeting}
use Rattle.collisions.specs.Meetings.{met, paths_of}
use Rattle.collisions.proofs.Found.{meeting_short, meeting_fits}
use Rattle.collisions.proofs.first_meeting.Goals as goal
use Rattle.collisions.proofs.first_meeting.Goals.{Else-not-are_there}

pub returns-then-not-are_there : goal.returns-then-not-are_there
returns-then-not-are_there c = sym (meeting_short c.args.paths (sym c.are_there.ensures ∙ c.if-not-are_there.true))

-- all cells are there
room : (c : Else-not-are_there) → c.args.paths.carts * c.args.paths.steps ≤ length c.args.paths.cells.now
room c = leb-true _ _ (sym c.are_there.ensures ∙ c.if-not-are_there.false)

pub returns-in-Some : goal.returns-in-Some
unfolding met
returns-in-Some c =
    let p = c.args.paths in
    sym (meeting_fits p (room (goal.at.returns-in-Some c).Else-not-are_there) ∙ ap (λ o. met o (first_exchange (paths_of p))) (sym c.in-Some.ensures))

pub returns : goal.returns
unfolding met
returns c =
    let p = c.args.paths in
    let e : c.map.result ≡ option_map Meeting.Exchange c.exchanges.result = search rules in
    e ∙ ap (option_map Meeting.Exchange) c.exchanges.ensures ∙ ap (λ o. met o (first_exchange (paths_of p))) c.in_default.ensures
    ∙ sym (meeting_fits p (room (goal.at.returns c).Else-not-are_there))
