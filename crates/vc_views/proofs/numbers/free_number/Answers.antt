use Rattle.vc_base.proofs.Common.{◌≡◌, ℕ, ◌+◌, ◌<◌, ◌≤◌, true, List, map, length, sym, arith, below_more, length-map, contains}
use Rattle.vc_views.specs.Dicts.{number_in}
use Rattle.vc_views.proofs.FreeNumbers.{find-nothing, no-fewer}
use Rattle.vc_views.proofs.NamedEntries.{Entry}
use Rattle.vc_views.proofs.numbers.free_number.Goals as goal

-- so many numbers are those of dictionaries
within : (es : List Entry) (n : ℕ) → ((k : ℕ) → k < n → contains (map number_in es) k ≡ true) → n ≤ length es
within es n all = let few = no-fewer n (map number_in es) all in omega (arith, few, length-map es number_in)

more : (es : List Entry) (n : ℕ) → ((k : ℕ) → k < n → contains (map number_in es) k ≡ true) → contains (map number_in es) n ≡ true → (k : ℕ) → k < n + 1 → contains (map number_in es) k ≡ true
more es n all one = below_more (λ k. contains (map number_in es) k ≡ true) n all one

pub loop-number-preserved : goal.loop-number-preserved
loop-number-preserved c = more c.args.dicts.now.entries c.loop-number.number c.loop-number.invariant (sym c.loop-number-test.ensures)

pub loop-number-smaller : goal.loop-number-smaller
loop-number-smaller c =
    let last = within c.args.dicts.now.entries (c.loop-number.number + 1) (more c.args.dicts.now.entries c.loop-number.number c.loop-number.invariant (sym c.loop-number-test.ensures)) in
    omega (arith, last)

pub overflow_add-number : goal.overflow_add-number
overflow_add-number c =
    let last = within c.args.dicts.now.entries c.loop-number.number c.loop-number.invariant in
    let few = c.requires.few in
    omega (arith, last, few)

pub returns-clause-free : goal.returns-clause-free
returns-clause-free c = find-nothing number_in c.loop-number.number c.args.dicts.now.entries (sym c.loop-number-test.ensures)

pub returns-clause-below : goal.returns-clause-below
returns-clause-below c =
    let last = within c.args.dicts.now.entries c.loop-number.number c.loop-number.invariant in
    let few = c.requires in
    omega (arith, last, few)
