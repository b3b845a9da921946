-- What a load answers, from what the reader of the tables and the count of events and bounds answer. Assumes nothing.
use Rattle.std.specs.Prelude.{Err, Ok}
use Prim.Native.Nat.{ℕ, ◌≤◌, ◌<◌}
use mathlib.Core.Path.{◌≡◌, refl, ap, sym, ◌∙◌}
use mathlib.Core.Bool.{Bool, true, false, true≢false}
use mathlib.Core.List.{List, []}
use lib.ListN.{length, replicate}
use borrow.Author.Tests.{lt-leb}
use Rattle.words.specs.Words.{padded}
use Rattle.floor.specs.declared.Reason.TheVariants.{Limit}
use Rattle.floor.specs.declared.Table.TheVariants.{Paths}
use Rattle.floor.specs.declared.Refusal.{Refusal}
use Rattle.tables.specs.declared.Size.{Size}
use Rattle.floor.specs.Refusal.{Judged}
use Rattle.floor.specs.Plan.{Plan}
use Rattle.floor.specs.Tables.{Tables, read_tables}
use Rattle.tables.specs.Arrays.{path_cells}
use Rattle.tables.specs.Reading.{Arrays, room, Outcome, size_of, read_answer, arrays_judged, numbers_of, reading}
use Rattle.floor.proofs.Judging.{goes_on, ends}
use Rattle.tables.proofs.TablesRead.{answer_refused, answer_read, answer_short, into_judged}
use Rattle.network.specs.Judge.{within_limits, judge}
use Rattle.limits.specs.Limits.{limits_kept, paths_within}
use Rattle.limits.proofs.Kept.{within_kept, within_over, paths_within_is}
use Rattle.tables.specs.declared.ReadError.{ReadError as LoadError}
use Rattle.hegtalim.specs.Answers.{Loaded}
use Rattle.slice.specs.PlanSlice.{plan_slice}
use Rattle.hegtalim.specs.Outcomes.{Load, load_judged, load}
use Rattle.hegtalim.proofs.Calls.{load_on}

-- ---- the judgement

-- the answer to three tables
abbrev pub said : Tables → Loaded
said ts = (load_judged ts 0 (judge ts)).answer

-- of tables that are refused
said_refused : (ts : Tables) (r : Refusal) → judge ts ≡ Err r → Err (LoadError.Refused r) ≡ said ts
unfolding load_judged
said_refused ts r e = sym (ap (λ (j : Judged Plan). (load_judged ts 0 j).answer) e)

said_held : (ts : Tables) (p : Plan) → judge ts ≡ Ok p → (Ok tt) ≡ said ts
unfolding load_judged
said_held ts p e = sym (ap (λ (j : Judged Plan). (load_judged ts 0 j).answer) e)

-- the reader had room for the limits
module _ (ts : Tables) (arrays : Arrays) (has : room arrays ≡ true) where
  -- so its answer is that of the judgement
  pub read_said : (reading ts arrays).answer ≡ read_answer (read_tables ts)
  read_said = ap (λ (o : Outcome). o.answer) (into_judged ts arrays has (read_tables ts) refl)

  -- and the cells of an accepted plan are left
  pub cells_left : (x : Plan) → read_tables ts ≡ Ok x → (reading ts arrays).arrays.cells ≡ padded (length arrays.cells) (path_cells x.paths)
  unfolding arrays_judged numbers_of
  cells_left x q = ap (λ (o : Outcome). o.arrays.cells) (into_judged ts arrays has (Ok x) q)

-- from what the reader said
module _ (ts : Tables) where
  -- why there is none
  pub judged_error : (why : LoadError) → Err why ≡ read_answer (read_tables ts) → Err why ≡ said ts
  unfolding judge
  judged_error LoadError.TooShort q = absurd (answer_short (read_tables ts) q)
  judged_error (LoadError.Refused why) q = said_refused ts why (ends (read_tables ts) within_limits why (answer_refused (read_tables ts) why q))

  -- a plan was read, and its paths were looked at
  module _ (n : Size) (q : Ok n ≡ read_answer (read_tables ts)) (size : ℕ) (d : 8192 ≤ size) (cells : List ℕ)
      (left : (p : Plan) → read_tables ts ≡ Ok p → cells ≡ padded size (path_cells p.paths)) (t : Bool) (found : t ≡ paths_within n.carts n.steps cells) where
    plan : (p : Plan) × (read_tables ts ≡ Ok p) × (n ≡ size_of p)
    plan = answer_read (read_tables ts) n q

    kept : t ≡ limits_kept plan.0
    unfolding size_of
    kept =
        let (p, e, is) = plan in
        found ∙ ap (paths_within n.carts n.steps) (left p e)
        ∙ ap (λ (s : Size). paths_within s.carts s.steps (padded size (path_cells p.paths))) is
        ∙ paths_within_is ts p e size d

    -- within the limits
    pub judged_held : t ≡ true → (Ok tt) ≡ said ts
    unfolding judge
    judged_held h = let (x, e, _) = plan in said_held ts x (goes_on (read_tables ts) within_limits x e ∙ within_kept x (sym kept ∙ h))

    -- over them
    pub judged_over : t ≡ false → Err (LoadError.Refused (record { reason = Limit; table = Paths; row = 0 })) ≡ said ts
    unfolding judge
    judged_over h = let (x, e, _) = plan in said_refused ts _ (goes_on (read_tables ts) within_limits x e ∙ within_over x (sym kept ∙ h))

-- ---- the call

-- whether it tells of a plan
holds : Loaded → Bool
holds (Ok tt) = true
holds (Err why) = false

-- why it tells of none
why_none : Loaded → LoadError
why_none (Ok tt) = LoadError.TooShort
why_none (Err why) = why

pub held_said : (ts : Tables) → (Ok tt) ≡ said ts → (p : Plan) × (judge ts ≡ Ok p)
unfolding load_judged holds
held_said ts e = by (judge ts) refl e
  where
    by : (j : Judged Plan) → judge ts ≡ j → (Ok tt) ≡ (load_judged ts 0 j).answer → (p : Plan) × (judge ts ≡ Ok p)
    by (Err r) q e = absurd (true≢false (ap holds e))
    by (Ok p) q e = (p, q)

error_said : (ts : Tables) (why : LoadError) → Err why ≡ said ts → (r : Refusal) × (judge ts ≡ Err r) × (why ≡ LoadError.Refused r)
unfolding load_judged holds why_none
error_said ts why e = by (judge ts) refl e
  where
    by : (j : Judged Plan) → judge ts ≡ j → Err why ≡ (load_judged ts 0 j).answer → (r : Refusal) × (judge ts ≡ Err r) × (why ≡ LoadError.Refused r)
    by (Err r) q e = (r, q, ap why_none e)
    by (Ok p) q e = absurd (true≢false (sym (ap holds e)))

-- the answer and the slice are those of `load`
abbrev pub Loads : Tables → List ℕ → Loaded → List ℕ → Type 0
Loads ts plan answer left = (answer ≡ (load ts plan).answer) × (left ≡ (load ts plan).plan)

-- an outcome, in two parts
both : (ts : Tables) (plan : List ℕ) (o : Load) → load ts plan ≡ o → Loads ts plan o.answer o.plan
both ts plan o e = (sym (ap (λ (x : Load). x.answer) e), sym (ap (λ (x : Load). x.plan) e))

-- a slice that is too short stays as it came
pub loads_short : (ts : Tables) (plan : List ℕ) → length plan < 233_472 → Loads ts plan (Err LoadError.TooShort) plan
unfolding load
loads_short ts plan h =
    both ts plan (record { answer = (Err LoadError.TooShort); plan = plan })
    (ap (λ (b : Bool). elim b as (λ _. Load) [ false ↦ record { answer = (Err LoadError.TooShort); plan = plan } | true ↦ load_judged ts (length plan) (judge ts) ]) (lt-leb 233_472 (length plan) h))

module _ (ts : Tables) (plan : List ℕ) (long : 233_472 ≤ length plan) where
  -- a refusal, and zeros
  pub loads_error : (why : LoadError) → Err why ≡ said ts → (left : List ℕ) → left ≡ replicate (length plan) 0 → Loads ts plan (Err why) left
  unfolding load_judged
  loads_error why e left z =
      let (r, q, is) = error_said ts why e in
      let (a, b) = both ts plan _ (load_on ts plan (Err r) long q) in (ap Err is ∙ a, z ∙ b)

  -- a plan held
  pub loads_held : (Ok tt) ≡ said ts → (left : List ℕ) → left ≡ plan_slice (length plan) ts [] → Loads ts plan (Ok tt) left
  unfolding load_judged
  loads_held e left z = let (p, q) = held_said ts e in let (a, b) = both ts plan _ (load_on ts plan (Ok p) long q) in (a, z ∙ b)
