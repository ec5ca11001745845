use Rattle.vc_base.proofs.Common.{◌≡◌, ℕ, List, ◌+◌, ◌*◌, ◌/◌, ◌%◌, ◌≤◌, length, get_or, get_or_default, ap, ◌∙◌, arith}
use Rattle.vc_image_check.specs.Marks.Mark.{start_of}
use Rattle.vc_image_check.proofs.marks.marks.Marks.start.Goals as goal

-- the sum, whatever stands for a place that isn't there
sum-is : (places : List ℕ) (a d : ℕ) → length places ≡ 1024 → a / 1048576 ≤ 1023 → d ≡ get_or places (a / 1048576) d → d + 32 * (a % 1048576) ≡ start_of places a
sum-is places a d all number e = ap (λ z. z + 32 * (a % 1048576)) (e ∙ get_or_default places (a / 1048576) d 0 (omega (arith, all, number)))

pub index-requires : goal.index-requires
index-requires c = omega (arith, c.requires.number, c.args.self.now.all, c.args.self.now.places.ok.0)

pub overflow_add-result : goal.overflow_add-result
overflow_add-result c =
    let is = sum-is c.args.self.now.places.items c.args.a c.index.result.now c.args.self.now.all c.requires.number c.index.ensures in
    omega (arith, c.requires.most, is)

pub returns : goal.returns
returns c = sum-is c.args.self.now.places.items c.args.a c.index.result.now c.args.self.now.all c.requires.number c.index.ensures
