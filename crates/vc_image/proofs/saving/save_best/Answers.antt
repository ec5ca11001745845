use Rattle.vc_base.proofs.Common.{◌≡◌, ℕ, ◌+◌, ◌++◌, length, take, IfSome, Some, sym, refl, ap, ap₂, ◌∙◌, subst, [], rules, append-nil, length-append}
use Rattle.vc_best.proofs.EmptySegments.{segments-of}
use Rattle.vc_seg.specs.Segment.{AreSegments}
use Rattle.vc_image_check.specs.Bytes.Image.{image_of}
use Rattle.vc_image.specs.Save.{image_body, image_contents}
use Rattle.vc_image.proofs.Fronts.{both-written, front-first, front-written}
use Rattle.vc_image.proofs.Heads.{whole}
use Rattle.vc_image.proofs.saving.save_best.Goals as goal

pub head_bytes-requires-clause-segs : goal.head_bytes-requires-clause-segs
head_bytes-requires-clause-segs g c = subst AreSegments (sym c.as_slice-segs.ensures.value) (segments-of _ _ c.args.best.now.extents.kept)

pub write_segments-requires : goal.write_segments-requires
write_segments-requires g c = subst AreSegments (sym c.as_slice-segs.ensures.value) (segments-of _ _ c.args.best.now.extents.kept)

pub returns-in-Ok-write_segments-clause-ok : goal.returns-in-Ok-write_segments-clause-ok
returns-in-Ok-write_segments-clause-ok g c =
    subst (λ z. IfSome (g.O.Sink.written c.args.out.now) (λ w. g.O.Sink.written c.write_segments.new.out ≡ Some (w ++ z)))
    (whole _ _ _ c.args.dicts.now _ _ c.deref.ensures.value c.in-Ok.ensures c.as_slice-segs.ensures.value)
    (both-written _ _ _ _ _ c.in-Ok-write_all.ensures.ok c.in-Ok-write_segments.ensures.ok)

pub returns-in-Ok-write_segments-clause-length : goal.returns-in-Ok-write_segments-clause-length
returns-in-Ok-write_segments-clause-length g c =
    let items = c.in-Ok.head.items in
    let segs = c.as_slice-segs.result.now in
    let w : items ++ image_body segs ≡ image_of (image_contents c.args.best.now c.args.dicts.now) = whole _ _ _ c.args.dicts.now items items refl c.in-Ok.ensures c.as_slice-segs.ensures.value in
    let l : c.len.result ≡ length items = c.len.ensures ∙ search rules in
    let n : c.in-Ok-write_segments.total ≡ length (image_body segs) = c.in-Ok-write_segments.ensures.length in
    ap₂ (λ (x y : ℕ). x + y) l n ∙ sym (length-append items (image_body segs)) ∙ ap length w

pub returns-in-Ok-write_segments-clause-front : goal.returns-in-Ok-write_segments-clause-front
returns-in-Ok-write_segments-clause-front g c =
    let segs = c.as_slice-segs.result.now in
    front-written _ _ _ c.deref.result.now (image_body segs) [] _
    (sym (whole _ _ _ c.args.dicts.now _ _ c.deref.ensures.value c.in-Ok.ensures c.as_slice-segs.ensures.value) ∙ ap (λ z. c.deref.result.now ++ z) (sym (append-nil (image_body segs))))
    c.in-Ok-write_all.ensures.ok c.in-Ok-write_segments.ensures.front

pub returns-in-Ok-write_all-clause-front : goal.returns-in-Ok-write_all-clause-front
returns-in-Ok-write_all-clause-front g c =
    let segs = c.as_slice-segs.result.now in
    front-written _ _ _ c.deref.result.now (image_body segs) [] _
    (sym (whole _ _ _ c.args.dicts.now _ _ c.deref.ensures.value c.in-Ok.ensures c.as_slice-segs.ensures.value) ∙ ap (λ z. c.deref.result.now ++ z) (sym (append-nil (image_body segs))))
    c.in-Ok-write_all.ensures.ok c.in-Err-write_segments.ensures.front

pub returns-clause-front : goal.returns-clause-front
returns-clause-front g c =
    subst (λ z. IfSome (g.O.Sink.written c.args.out.now) (λ w. (k : ℕ) × (g.O.Sink.written c.write_all.new.out ≡ Some (w ++ take k z))))
    (whole _ _ _ c.args.dicts.now _ _ c.deref.ensures.value c.in-Ok.ensures c.as_slice-segs.ensures.value)
    (front-first _ _ _ (image_body c.as_slice-segs.result.now) c.in-Err-write_all.ensures.front)
