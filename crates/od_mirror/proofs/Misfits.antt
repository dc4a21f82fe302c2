-- The first node that does not fit has the least number, where numbers rise.
use Rattle.std.proofs.Common.{◌≡◌, ℕ, ◌<◌, ◌≤◌, Bool, true, false, not, ◌&&◌, ◌||◌, cond, List, [], ◌∷◌, map, find, is_none, min, nat_eq, slice_get, Option, Some, None, refl, ap, ◌∙◌, inl, inr, arith}
use Rattle.std.proofs.lemmas.Map.Keys.{sorted_head, sorted_tail}
use Rattle.std.specs.List.{AllByRecursion}
use Rattle.std.specs.Ordering.{nat_cmp}
use Rattle.std.specs.declared.cmp.Ordering.TheVariants.{Less}
use Rattle.std.proofs.lemmas.Bool.{cases_lt}
use Rattle.std.proofs.lemmas.Bool.Decides.{nat_tests}
use Rattle.std.specs.Option.{option_map}
use Rattle.gd_item.specs.declared.item.Item.{Item}
use Rattle.gd_item.specs.Nodes.{Node, item_node, node_at, path_of, has_twin}
use Rattle.od_mirror.specs.Climbs.{Rise, misfits, first_misfit}
use Rattle.od_mirror.specs.Pulled.{nodes, has_root, is_misplaced, is_bad, IsLeastBad, AllFit}

abbrev numbers : List Node → List ℕ
numbers all = map (λ (node : Node). node.number) all

tail-rises : (node : Node) (all : List Node) → Rise (node ∷ all) → Rise all
tail-rises node all rise = sorted_tail nat_cmp node.number (numbers all) rise

apart-below : (a b : ℕ) → nat_cmp a b ≡ Less → (less : ℕ) → less ≤ a → nat_eq b less ≡ false
apart-below a b above less low = grind (arith, nat_tests)

not-self : (a b : ℕ) → a < b → nat_eq b a ≡ false
not-self a b low = grind (arith, nat_tests)

not-above : (a b : ℕ) → a < b → nat_eq a b ≡ false
not-above a b low = grind (arith, nat_tests)

is-self : (a : ℕ) → nat_eq a a ≡ true
is-self a = grind (arith, nat_tests)

-- no node has a number that is at most one that is below all
none-below : (number : ℕ) (all : List Node) → AllByRecursion (λ other. nat_cmp number other ≡ Less) (numbers all) → (less : ℕ) → less ≤ number → node_at less all ≡ None
none-below number [] above less low = refl
none-below number (node ∷ all) above less low = rw (apart-below number node.number above.0 less low) (none-below number all above.1 less low)

-- no node has a number below the first's
none-before : (node : Node) (all : List Node) → Rise (node ∷ all) → (less : ℕ) → less < node.number → node_at less (node ∷ all) ≡ None
none-before node all rise less low =
    let at_most : less ≤ node.number = omega arith in
    rw (not-self less node.number low) (none-below node.number all (sorted_head nat_cmp node.number (numbers all) rise) less at_most)

-- no later node has the number of the first, or one below it
above-first : (node : Node) (all : List Node) → Rise (node ∷ all) → (other : Node) → node_at other.number all ≡ Some other → node.number < other.number
above-first node all rise other there =
    elim (cases_lt node.number other.number) [
      | inl high ↦ high
      | inr low ↦
          let none : node_at other.number all ≡ None = none-below node.number all (sorted_head nat_cmp node.number (numbers all) rise) other.number low in
          absurd (cc)
    ]

-- the first node that passes a test is the one of its number, and each of a lesser number fails
record IsFirst (pass : Node → Bool) (all : List Node) (node : Node) : Type 0 where
  there : node_at node.number all ≡ Some node
  passes : pass node ≡ true
  before : (less : ℕ) (other : Node) → less < node.number → node_at less all ≡ Some other → pass other ≡ false

before-it : (b : Bool) (pass : Node → Bool) (first other : Node) (rest : Option Node) → pass first ≡ false → (rest ≡ Some other → pass other ≡ false)
    → cond b (Some first) rest ≡ Some other → pass other ≡ false
before-it true pass first other rest fails later found = let same : first ≡ other = cc in rw (← same) fails
before-it false pass first other rest fails later found = later found

first-itself : (pass : Node → Bool) (first : Node) (all : List Node) → Rise (first ∷ all) → pass first ≡ true → IsFirst pass (first ∷ all) first
first-itself pass first all rise passes = record {
  there = rw (is-self first.number) refl;
  passes = passes;
  before = λ less other low found. let none : node_at less (first ∷ all) ≡ None = none-before first all rise less low in absurd (cc);
}

first-later : (pass : Node → Bool) (first node : Node) (all : List Node) → Rise (first ∷ all) → pass first ≡ false → IsFirst pass all node → IsFirst pass (first ∷ all) node
first-later pass first node all rise fails later = record {
  there = rw (not-above first.number node.number (above-first first all rise node later.there)) later.there;
  passes = later.passes;
  before = λ less other low found. before-it (nat_eq first.number less) pass first other (node_at less all) fails (later.before less other low) found;
}

first-at : (b : Bool) (pass : Node → Bool) (first node : Node) (all : List Node) → pass first ≡ b → Rise (first ∷ all) → (find pass all ≡ Some node → IsFirst pass all node)
    → cond b (Some first) (find pass all) ≡ Some node → IsFirst pass (first ∷ all) node
first-at true pass first node all is rise later found = let same : first ≡ node = cc in rw (← same) (first-itself pass first all rise is)
first-at false pass first node all is rise later found = first-later pass first node all rise is (later found)

first-passing : (pass : Node → Bool) (all : List Node) (node : Node) → Rise all → find pass all ≡ Some node → IsFirst pass all node
first-passing pass [] node rise found = absurd (cc)
first-passing pass (first ∷ all) node rise found =
    first-at (pass first) pass first node all refl rise (first-passing pass all node (tail-rises first all rise)) found

-- where none passes, each that is there fails
none-at : (b : Bool) (pass : Node → Bool) (first other : Node) (number : ℕ) (all : List Node) → pass first ≡ b
    → (find pass all ≡ None → node_at number all ≡ Some other → pass other ≡ false) → cond b (Some first) (find pass all) ≡ None
    → cond (nat_eq first.number number) (Some first) (node_at number all) ≡ Some other → pass other ≡ false
none-at true pass first other number all is later none found = absurd (cc)
none-at false pass first other number all is later none found =
    before-it (nat_eq first.number number) pass first other (node_at number all) is (later none) found

none-passing : (pass : Node → Bool) (all : List Node) → find pass all ≡ None → (number : ℕ) (other : Node) → node_at number all ≡ Some other → pass other ≡ false
none-passing pass [] none number other found = absurd (cc)
none-passing pass (first ∷ all) none number other found =
    none-at (pass first) pass first other number all refl (λ rest there. none-passing pass all rest number other there) none found

-- ---- where the root is there, a number is bad where its node does not fit
with-root : (b : Bool) (all : List Node) (node : Node) → b ≡ true → (not b || is_none (path_of all node.number) || has_twin all node) ≡ misfits all node
with-root b all node there = rw there refl

no-root-lost : (b c : Bool) → b ≡ true → (c && not b) ≡ false
no-root-lost true true there = refl
no-root-lost true false there = refl
no-root-lost false c there = absurd (cc)

or-false : (b c : Bool) → c ≡ false → (b || c) ≡ b
or-false true c is = refl
or-false false c is = is

bad-node : (all : List Node) (number : ℕ) (node : Node) → has_root all ≡ true → node_at number all ≡ Some node → is_bad all number ≡ misfits all node
bad-node all number node rooted there =
    ap (λ at. is_misplaced all at || (nat_eq number 1 && not (has_root all))) there
    ∙ or-false (is_misplaced all (Some node)) (nat_eq number 1 && not (has_root all)) (no-root-lost (has_root all) (nat_eq number 1) rooted)
    ∙ with-root (has_root all) all node rooted

bad-none : (all : List Node) (number : ℕ) → has_root all ≡ true → node_at number all ≡ None → is_bad all number ≡ false
bad-none all number rooted there =
    ap (λ at. is_misplaced all at || (nat_eq number 1 && not (has_root all))) there ∙ no-root-lost (has_root all) (nat_eq number 1) rooted

good-number : (all : List Node) (number : ℕ) (at : Option Node) → has_root all ≡ true → node_at number all ≡ at → ((other : Node) → at ≡ Some other → misfits all other ≡ false)
    → is_bad all number ≡ false
good-number all number None rooted there fit = bad-none all number rooted there
good-number all number (Some node) rooted there fit = bad-node all number node rooted there ∙ fit node refl

all-fit-at : (all : List Node) (at : Option Node) → has_root all ≡ true → find (misfits all) all ≡ at → option_map (λ (node : Node). node.number) at ≡ None → AllFit all
all-fit-at all None rooted is none number =
    good-number all number (node_at number all) rooted refl (λ other there. none-passing (misfits all) all is number other there)
all-fit-at all (Some node) rooted is none number = absurd (cc)

pub all-fit : (all : List Node) → has_root all ≡ true → first_misfit all ≡ None → AllFit all
all-fit all rooted none = all-fit-at all (find (misfits all) all) rooted refl none

least-bad : (all : List Node) (node : Node) → has_root all ≡ true → IsFirst (misfits all) all node → IsLeastBad all node.number
least-bad all node rooted first = record {
  bad = bad-node all node.number node rooted first.there ∙ first.passes;
  least = λ less low. good-number all less (node_at less all) rooted refl (λ other there. first.before less other low there);
}

first-bad-at : (all : List Node) (number : ℕ) (at : Option Node) → Rise all → has_root all ≡ true → find (misfits all) all ≡ at
    → option_map (λ (node : Node). node.number) at ≡ Some number → IsLeastBad all number
first-bad-at all number None rise rooted is found = absurd (cc)
first-bad-at all number (Some node) rise rooted is found =
    let same : node.number ≡ number = cc in rw (← same) (least-bad all node rooted (first-passing (misfits all) all node rise is))

pub first-bad : (all : List Node) (number : ℕ) → Rise all → has_root all ≡ true → first_misfit all ≡ Some number → IsLeastBad all number
first-bad all number rise rooted found = first-bad-at all number (find (misfits all) all) rise rooted refl found

-- ---- where there is no root
lost-node : (all : List Node) (number : ℕ) (node : Node) → has_root all ≡ false → node_at number all ≡ Some node → is_bad all number ≡ true
lost-node all number node lost there = rw (there, lost) refl

lost-root : (b c d : Bool) → c ≡ true → d ≡ false → (b || (c && not d)) ≡ true
lost-root true c d at lost = refl
lost-root false c d at lost = rw (at, lost) refl

lost-below : (all : List Node) (number : ℕ) → number < 1 → node_at number all ≡ None → is_bad all number ≡ false
lost-below all number low none = rw (none, not-above number 1 low) refl

root-is-bad : (all : List Node) → has_root all ≡ false → is_bad all 1 ≡ true
root-is-bad all lost = lost-root (is_misplaced all (node_at 1 all)) (nat_eq 1 1) (has_root all) refl lost

zero-first : (node : Node) (all : List Node) → node.number ≡ 0 → has_root (node ∷ all) ≡ false → IsLeastBad (node ∷ all) 0
zero-first node all zeroth lost = record {
  bad = let there : node_at 0 (node ∷ all) ≡ Some node = rw zeroth refl in lost-node (node ∷ all) 0 node lost there;
  least = λ less low. absurd (omega arith);
}

root-first : (all : List Node) → ((less : ℕ) → less < 1 → node_at less all ≡ None) → has_root all ≡ false → IsLeastBad all 1
root-first all none lost = record {
  bad = root-is-bad all lost;
  least = λ less low. lost-below all less low (none less low);
}

pub lost-first : (items : List Item) (item : Item) (number : ℕ) → Some item ≡ slice_get items 0 → number ≡ min item.id.0 1 → Rise (nodes items) → has_root (nodes items) ≡ false
    → IsLeastBad (nodes items) number
lost-first [] item number first is rise lost = absurd (cc)
lost-first (head ∷ items) item number first is rise lost =
    let same : item ≡ head = cc in
    let at : number ≡ min head.id.0 1 = cc in
    elim (cases_lt head.id.0 1) [
      | inl low ↦
          let zeroth : head.id.0 ≡ 0 = omega arith in
          let least : number ≡ 0 = omega arith in
          rw least (zero-first (item_node head) (nodes items) zeroth lost)
      | inr high ↦
          let least : number ≡ 1 = omega arith in
          rw least (root-first (nodes (head ∷ items)) (λ less low. none-before (item_node head) (nodes items) rise less (omega arith)) lost)
    ]
