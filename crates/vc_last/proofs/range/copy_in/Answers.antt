use Rattle.vc_base.proofs.Common.{◌≡◌, ℕ, ◌+◌, ◌≤◌, List, [], length, get_or, HoldsAt, take, drop, sym, refl, ap, ◌∙◌, arith, with_bytes}
use Rattle.vc_seg.specs.Memory.{bytes_of_number, with_copy_of}
use Rattle.vc_seg.specs.Segment.{Bytes}
use Rattle.vc_seg.proofs.FirstByNumber.{bytes_of_number-first, write_segment-first}
use Rattle.vc_last.specs.Head.{IsFirstAt}
use Rattle.vc_last.proofs.range.copy_in.Goals as goal

-- a range of the segment of a number lies in the one that stands first of it
lies : (n at len place : ℕ) (segs : List Bytes) → IsFirstAt n segs place → at + len ≤ length (bytes_of_number n segs) → HoldsAt (λ s. at + len ≤ length s.bytes) segs place
lies n at len place segs p within = λ d. omega (arith, within, ap length (bytes_of_number-first n segs place d p.within p.first (p.number d)))

pub copy_between-requires-clause-from : goal.copy_between-requires-clause-from
copy_between-requires-clause-from c = lies c.args.number c.args.from c.args.len c.place_of_number-source.result c.args.segs.now c.place_of_number-source.ensures c.requires.from

pub copy_between-requires-clause-to : goal.copy_between-requires-clause-to
copy_between-requires-clause-to c = lies c.args.target c.args.to c.args.len c.place_of_number-place.result c.args.segs.now c.place_of_number-place.ensures c.requires.to

pub returns : goal.returns
returns c =
    let d : Bytes = record { number = 0; bytes = [] } in
    let segs = c.args.segs.now in
    let j = c.place_of_number-place.result in
    let p = c.place_of_number-source.ensures in
    let q = c.place_of_number-place.ensures in
    let own = bytes_of_number-first c.args.number segs c.place_of_number-source.result d p.within p.first (p.number d) in
    let new : Bytes = with_copy_of (get_or segs c.place_of_number-source.result d) c.args.from c.args.len c.args.to (get_or segs j d) in
    let same : new.bytes ≡ with_bytes c.args.to (take c.args.len (drop c.args.from (bytes_of_number c.args.number segs))) (get_or segs j d).bytes =
    ap (λ bytes. with_bytes c.args.to (take c.args.len (drop c.args.from bytes)) (get_or segs j d).bytes) (sym own) in
    c.copy_between.ensures d
    ∙ write_segment-first c.args.target c.args.to (take c.args.len (drop c.args.from (bytes_of_number c.args.number segs))) segs j d new q.within q.first (q.number d) refl same
