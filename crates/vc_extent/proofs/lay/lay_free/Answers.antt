use Rattle.vc_base.proofs.Common.{◌≡◌, ℕ, ◌+◌, ◌-◌, ◌≤◌, length, sym, ◌∙◌, subst, arith}
use Rattle.vc_seg.specs.Segment.{Bytes}
use Rattle.vc_extent.specs.Extent.{no_links}
use Rattle.vc_seg.specs.Field.{field_at}
use Rattle.vc_seg.specs.Frame.{StaysOutside}
use Rattle.vc_extent.specs.Tiles.{Tiles}
use Rattle.vc_seg.proofs.Frames.{only-below, field-front, field-back, then, wider}
use Rattle.vc_extent.proofs.Tiled.{free-is, zero-links, legal-free, tiles-back}
use Rattle.vc_extent.proofs.lay.lay_free.Goals as goal
use Rattle.vc_extent.proofs.lay.lay_free.Goals.{After-set_field-3}

-- the bytes of head and links are written, and no others
whole : (c : After-set_field-3) → StaysOutside c.args.at (c.args.at + 28) c.args.seg.now c.set_field-3.new.self
whole c =
    let at = c.args.at in
    let o : Bytes = c.args.seg.now in
    let h : Bytes = c.set_head.new.seg in
    let a : Bytes = c.set_field.new.self in
    let b : Bytes = c.set_field-2.new.self in
    let n : Bytes = c.set_field-3.new.self in
    let zeroth : StaysOutside at (at + 28) o h = wider at (at + 12) at (at + 28) o h c.set_head.ensures.rest (omega arith) (omega arith) in
    let first : StaysOutside at (at + 28) h a = wider (at + 16) (at + 16 + 4) at (at + 28) h a c.set_field.ensures.rest (omega arith) (omega arith) in
    let second : StaysOutside at (at + 28) a b = wider (at + 20) (at + 20 + 4) at (at + 28) a b c.set_field-2.ensures.rest (omega arith) (omega arith) in
    let third : StaysOutside at (at + 28) b n = wider (at + 24) (at + 24 + 4) at (at + 28) b n c.set_field-3.ensures.rest (omega arith) (omega arith) in
    then at (at + 28) o h n zeroth (then at (at + 28) h a n first (then at (at + 28) a b n second third))

-- what lies before the links stays when they are written
front : (c : After-set_field-3) → (i : ℕ) → i + 4 ≤ c.args.at + 16 → field_at i c.set_field-3.new.self.bytes ≡ field_at i c.set_head.new.seg.bytes
front c i le =
    field-front c.set_field-2.new.self.bytes c.set_field-3.new.self.bytes (c.args.at + 24) c.set_field-3.ensures.rest.below i (omega arith)
    ∙ (field-front c.set_field.new.self.bytes c.set_field-2.new.self.bytes (c.args.at + 20) c.set_field-2.ensures.rest.below i (omega arith)
    ∙ field-front c.set_head.new.seg.bytes c.set_field.new.self.bytes (c.args.at + 16) c.set_field.ensures.rest.below i (omega arith))

pub returns-clause-tiles : goal.returns-clause-tiles
returns-clause-tiles c =
    λ es t.
    let at = c.args.at in
    let o : Bytes = c.args.seg.now in
    let h : Bytes = c.set_head.new.seg in
    let a : Bytes = c.set_field.new.self in
    let b : Bytes = c.set_field-2.new.self in
    let n : Bytes = c.set_field-3.new.self in
    let here : After-set_field-3 = (goal.at.returns-clause-tiles c).After-set_field-3 in
    let rest : StaysOutside at (at + 28) o n = whole here in
    let heads = c.set_head.ensures in
    let e : (i : ℕ) → i + 4 ≤ at + 16 → field_at i n.bytes ≡ field_at i h.bytes = front here in
    let twenty : at + 20 ≡ at + 16 + 4 = omega arith in
    let more : at + 24 ≡ at + 16 + 8 = omega arith in
    let third : field_at (at + 24) n.bytes ≡ 0 = c.set_field-3.ensures.value in
    let second : field_at (at + 20) n.bytes ≡ 0 = field-front b.bytes n.bytes (at + 24) c.set_field-3.ensures.rest.below (at + 20) (omega arith) ∙ c.set_field-2.ensures.value in
    let first : field_at (at + 16) n.bytes ≡ 0 =
    field-front b.bytes n.bytes (at + 24) c.set_field-3.ensures.rest.below (at + 16) (omega arith)
    ∙ (field-front a.bytes b.bytes (at + 20) c.set_field-2.ensures.rest.below (at + 16) (omega arith) ∙ c.set_field.ensures.value) in (
      record {
        extent = free-is n.bytes at c.args.bytes no_links (e at (omega arith) ∙ heads.span) (e (at + 4) (omega arith) ∙ heads.size) (e (at + 8) (omega arith) ∙ heads.tag) (zero-links n.bytes (at + 16) first (subst (λ k. field_at k n.bytes ≡ 0) twenty second) (subst (λ k. field_at k n.bytes ≡ 0) more third));
        boundary = e (at + 12) (omega arith) ∙ field-back o.bytes h.bytes (at + 12) heads.rest.above (at + 12) (omega arith);
        legal = legal-free (at + 16) c.args.bytes no_links c.requires.least c.requires.multiple;
      },
      subst (λ k. Tiles n.bytes (k - 16) c.args.bytes (at + c.args.bytes) es) (sym rest.len) (tiles-back o.bytes n.bytes (at + 28) rest.above (length o.bytes - 16) c.args.bytes (at + c.args.bytes) es (omega (arith, c.requires.least)) t),
    )

pub returns-clause-rest : goal.returns-clause-rest
returns-clause-rest c = only-below c.args.at (c.args.at + 28) c.args.at c.args.seg.now c.set_field-3.new.self (whole (goal.at.returns-clause-rest c).After-set_field-3) (omega arith)
