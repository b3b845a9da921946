-- `tables::read_each` meets its contract: the roads, the carts and the paths, in this order, and then the paths held against the roads and each other.
-- Assumes nothing.
use Rattle.std.proofs.Common.{rules, ◌≡◌, ◌≤◌, ◌*◌, ◌∙◌, ap, ap₂, sym, subst, refl, arith, Err, Ok, List, ℕ, length}
use Rattle.floor.specs.declared.Road.{Road}
use Rattle.floor.specs.declared.Cart.{Cart}
use Rattle.floor.specs.Refusal.{Judged}
use Rattle.floor.specs.Roads.{read_roads}
use Rattle.floor.specs.Carts.{read_carts}
use Rattle.floor.specs.Paths.{read_paths, steps}
use Rattle.floor.specs.Tables.{Tables, read_tables}
use Rattle.floor.proofs.Accepted.{read_carts_sound, read_paths_sound}
use Rattle.tables.specs.declared.Size.{Size}
use Rattle.tables.specs.Arrays.{roads_in, paths_in}
use Rattle.tables.specs.Index.{Linked}
use Rattle.tables.specs.Lending.{tables_of, arrays_of}
use Rattle.tables.specs.Reading.{apart, read_apart, size_read, size_of}
use Rattle.tables.proofs.FirstLine.{counted_read, counted_refused}
use Rattle.tables.proofs.Found.{apart_first, apart_after, apart_they, accepted_there, accepted_refused}
use Rattle.tables.proofs.RoadRecords.{roads_held}
use Rattle.tables.proofs.PathTurns.{paths_answered, paths_refused}
use Rattle.tables.proofs.TablesRead.{few_roads, plan_of, roads_refused, carts_refused, paths_are_refused, all_read, each_refused, each_read, room_there, zeros_there, numbers_there}
use Rattle.tables.proofs.read_each.Goals as goal
use Rattle.tables.proofs.read_each.Goals.{Start, In_ok-n, In_ok-m, In_ok-count}

-- the tables as they were lent
abbrev tables : Start → Tables
tables s = tables_of s.args.tables

-- the roads that were read
roads_there : (c : In_ok-n) → (rs : List Road) × (read_roads c.args.tables.roads.now ≡ Ok rs) × (length rs ≡ c.in_ok-n.n)
roads_there c = counted_read _ _ c.in_ok-n.ensures.answer

-- the carts
carts_there : (c : In_ok-m) → (cs : List Cart) × (read_carts c.args.tables.carts.now ≡ Ok cs) × (length cs ≡ c.in_ok-m.m)
carts_there c = counted_read _ _ c.in_ok-m.ensures.answer

-- the paths
paths_there : (c : In_ok-count) →
    (ps : List (List ℕ)) × (read_paths c.in_ok-m.m c.args.tables.paths.now ≡ Ok ps)
    × (c.in_ok-count.count ≡ length ps) × (c.in_ok-count.steps ≡ steps ps)
paths_there c = paths_answered _ _ _ c.in_ok-count.ensures.answer

-- what is said of them as their arrays hold them is said of them as they were read
held : (c : In_ok-count) (rs : List Road) → read_roads c.args.tables.roads.now ≡ Ok rs → length rs ≡ c.in_ok-n.n
    → (cs : List Cart) → length cs ≡ c.in_ok-m.m
    → read_apart rs (length cs) c.args.tables.paths.now
    ≡ apart (roads_in c.in_ok-n.n c.read_table.new.roads) (paths_in c.in_ok-count.count c.in_ok-count.steps c.read_table-3.new.cells)
held c rs er n cs m =
    let roads_are : roads_in c.in_ok-n.n c.read_table.new.roads ≡ rs =
    ap (λ (k : ℕ). roads_in k c.read_table.new.roads) (sym n) ∙ ap (roads_in (length rs)) (c.read_table.ensures.left rs er) ∙ roads_held _ rs in
    let (ps, ep, k, w) = paths_there c in
    ap (λ (x : ℕ). read_apart rs x c.args.tables.paths.now) m
    ∙ apart_after rs c.in_ok-m.m c.args.tables.paths.now ps ep _ _ (c.read_table-3.ensures.left ps ep) _ _ k w
    ∙ ap (λ (x : List Road). apart x (paths_in c.in_ok-count.count c.in_ok-count.steps c.read_table-3.new.cells)) (sym roads_are)

pub read_table-requires : goal.read_table-requires
read_table-requires c =
    let (room, _, _) = room_there _ c.requires.room in
    let (blank, _, _) = zeros_there _ c.requires.cleared in
    record { in_bounds = (room, blank); unlinked = c.requires.unlinked }

pub read_table-requires-2 : goal.read_table-requires-2
read_table-requires-2 c = ((room_there _ c.requires.room).1, (zeros_there _ c.requires.cleared).1)

pub read_table-requires-3 : goal.read_table-requires-3
read_table-requires-3 c = ((room_there _ c.requires.room).2, (zeros_there _ c.requires.cleared).2)

pub returns-in_err-n : goal.returns-in_err-n
returns-in_err-n c =
    let ts = tables (goal.at.returns-in_err-n c).Start in
    let e : c.from_residual.result ≡ Err c.in_err-n.field-0.0 = search rules in
    let (x, (y, z)) = each_refused (read_tables ts) _ _ _ _ (roads_refused ts _ (counted_refused _ _ c.in_err-n.ensures.answer)) in
    record { answer = e ∙ x; left = y; same = record { edges = refl; speeds = refl; cells = refl; as_long = search rules }; index = z }

pub returns-in_err-m : goal.returns-in_err-m
returns-in_err-m c =
    let ts = tables (goal.at.returns-in_err-m c).Start in
    let (rs, er, _) = roads_there (goal.at.returns-in_err-m c).In_ok-n in
    let e : c.from_residual-in_err-m.result ≡ Err c.in_err-m.field-0.0 = search rules in
    let (x, (y, z)) = each_refused (read_tables ts) _ _ _ _ (carts_refused ts rs er _ (counted_refused _ _ c.in_err-m.ensures.answer)) in
    record { answer = e ∙ x; left = y; same = record { edges = refl; speeds = refl; cells = refl; as_long = search rules }; index = z }

pub returns-in_err-count : goal.returns-in_err-count
returns-in_err-count c =
    let ts = tables (goal.at.returns-in_err-count c).Start in
    let (rs, er, _) = roads_there (goal.at.returns-in_err-count c).In_ok-n in
    let (cs, ec, m) = carts_there (goal.at.returns-in_err-count c).In_ok-m in
    let r = c.in_err-count.field-0.0 in
    let e : c.from_residual-in_err-count.result ≡ Err r = search rules in
    let (x, (y, z)) = each_refused (read_tables ts) _ _ _ _
    (paths_are_refused ts rs er cs ec r (ap (λ (k : ℕ). read_apart rs k ts.paths) m ∙ apart_first rs _ ts.paths r (paths_refused _ _ c.in_err-count.ensures.answer))) in
    record { answer = e ∙ x; left = y; same = record { edges = refl; speeds = refl; cells = refl; as_long = search rules }; index = z }

pub judge_paths-requires : goal.judge_paths-requires
judge_paths-requires c =
    let (rs, er, n) = roads_there (goal.at.judge_paths-requires c).In_ok-n in
    let (cs, ec, m) = carts_there (goal.at.judge_paths-requires c).In_ok-m in
    let (ps, ep, k, w) = paths_there (goal.at.judge_paths-requires c).In_ok-count in
    let (_, _, some) = read_carts_sound c.args.tables.carts.now cs ec in
    let (even, count) = read_paths_sound c.in_ok-m.m c.args.tables.paths.now ps ep in
    let cells : c.in_ok-count.count * c.in_ok-count.steps ≤ 8192 = subst (λ (x : ℕ). x ≤ 8192) (sym (ap₂ (λ (x y : ℕ). x * y) k w)) even.few_cells in
    let (room, _, wide) = room_there _ c.requires.room in
    let few = few_roads c.args.tables.roads.now rs er in record {
      roads = (
        omega (arith, n, few),
        omega (arith, n, few, c.read_table.auto.roads, room),
        subst (λ (x : ℕ). Linked x c.read_table.new.roads c.read_table.new.index) n (c.read_table.ensures.index rs er),
      );
      paths = (omega (arith, k, count, some, m), omega (arith, cells, c.read_table-3.auto.cells, wide));
    }

pub returns-in_err-judge_paths : goal.returns-in_err-judge_paths
returns-in_err-judge_paths c =
    let ts = tables (goal.at.returns-in_err-judge_paths c).Start in
    let (rs, er, n) = roads_there (goal.at.returns-in_err-judge_paths c).In_ok-n in
    let (cs, ec, m) = carts_there (goal.at.returns-in_err-judge_paths c).In_ok-m in
    let r = c.in_err-judge_paths.field-0.0 in
    let e : c.from_residual-in_err-judge_paths.result ≡ Err r = search rules in
    let (x, (y, z)) = each_refused (read_tables ts) _ _ _ _
    (paths_are_refused ts rs er cs ec r (held (goal.at.returns-in_err-judge_paths c).In_ok-count rs er n cs m ∙ accepted_refused _ r c.in_err-judge_paths.ensures)) in
    record { answer = e ∙ x; left = y; same = record { edges = refl; speeds = refl; cells = refl; as_long = search rules }; index = z }

pub returns : goal.returns
unfolding size_read size_of
returns c =
    let ts = tables (goal.at.returns c).Start in
    let (rs, er, n) = roads_there (goal.at.returns c).In_ok-n in
    let (cs, ec, m) = carts_there (goal.at.returns c).In_ok-m in
    let (ps, ep, k, w) = paths_there (goal.at.returns c).In_ok-count in
    let (qs, kept) = accepted_there _ c.in_ok-judge_paths.ensures in
    let all = held (goal.at.returns c).In_ok-count rs er n cs m ∙ kept in
    let same : qs ≡ ps = apart_they rs (length cs) ts.paths ps (ap (λ (x : ℕ). read_paths x ts.paths) m ∙ ep) qs all in
    let (_, count) = read_paths_sound c.in_ok-m.m ts.paths ps ep in
    let k : c.in_ok-count.count ≡ length cs = k ∙ count ∙ sym m in
    let said : ◌≡◌ {A = Judged Size} (Ok (record { roads = c.in_ok-n.n; carts = c.in_ok-count.count; steps = c.in_ok-count.steps })) (Ok (record { roads = length rs; carts = length cs; steps = steps ps })) =
    ap₂ {C = Judged Size} (λ (x y : ℕ). Ok (record { roads = x; carts = y; steps = c.in_ok-count.steps })) (sym n) k
    ∙ ap (λ (z : ℕ). Ok (record { roads = length rs; carts = length cs; steps = z })) w in
    let (x, (y, z)) = each_read (read_tables ts) (arrays_of c.args.arrays.now) _ _ (plan_of rs cs ps) (all_read ts rs er cs ec ps (all ∙ ap Ok same)) _ said
    (numbers_there _ _ _ (c.read_table.ensures.left rs er) (c.read_table-2.ensures.left cs ec) (c.read_table-3.ensures.left ps ep)) (c.read_table.ensures.index rs er) in
    record { answer = x; left = y; same = record { edges = refl; speeds = refl; cells = refl; as_long = search rules }; index = z }
