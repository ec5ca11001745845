use Rattle.vc_base.proofs.Common.{◌≡◌, ◌+◌, Some, bytes_eq, sym, ap, ◌∙◌, subst, arith}
use Rattle.indexmap.specs.IndexMap.{insert_entry}
use Rattle.vc_seg.specs.OneBlock.{IsBlockPut}
use Rattle.vc_addrmap.specs.Map.{with_number}
use Rattle.vc_addrmap.specs.Parts.{numbers_of}
use Rattle.vc_best.specs.Parts.{layout_of}
use Rattle.vc_audit.specs.ProfileParts.{sites_in}
use Rattle.vc_audit.specs.ProfileSums.{IsCounted, Rows, index_for, sites_by}
use Rattle.vc_audit.proofs.ProfileAlloc.{IsPutAt, alloc-refused, counted-put, few-blocks, few-bytes, profile-put}
use Rattle.vc_audit.proofs.ProfileBare.{from-both}
use Rattle.vc_audit.proofs.ProfileFree.{profile}
use Rattle.vc_audit.proofs.ProfileRows.{IsRowWith}
use Rattle.vc_audit.proofs.ProfileSites.{put-other-site, put-own-site}
use Rattle.vc_audit.proofs.ProfileSound.{best-few}
use Rattle.vc_audit.proofs.profile.Profile.alloc.Given.{Over}
use Rattle.vc_audit.proofs.profile.Profile.alloc.Goals as goal
use Rattle.vc_audit.proofs.profile.Profile.alloc.Goals.{After-put, After-with}

pub overflow_add-bytes : goal.overflow_add-bytes
overflow_add-bytes g c =
    let few = few-bytes c.new-site.result c.row_for-row.result c.args.self.now.counted c.row_for-row.ensures in
    omega (arith, few, c.requires.size.most)

pub overflow_add-row : goal.overflow_add-row
overflow_add-row g c =
    let few = few-blocks c.new-site.result c.row_for-row.result c.args.self.now.counted c.row_for-row.ensures in
    let most = best-few c.args.self.now.best in
    omega (arith, few, most)

-- the rows after, the block that is put, and its row
rows : (g : Over) (c : After-put g) → c.put_row-index.new.rows.entries ≡ insert_entry bytes_eq c.args.self.now.rows.entries c.new-site.result c.with.result
rows g c = c.put_row-index.ensures.entries ∙ ap (λ es. insert_entry bytes_eq es c.new-site.result c.with.result) c.reserve.ensures.entries

block : (g : Over) (c : After-put g)
    → IsPutAt (layout_of c.args.self.now.best) (sites_in c.args.self.now) (sites_by (numbers_of c.put.new.self) c.put_row-index.new.rows.entries) c.args.self.now.rows.entries c.in-Ok.a.0 c.args.size c.new-site.result c.row_for-row.result
block g c =
    let me = c.args.self.now in
    let index = c.put_row-index.ensures.index ∙ ap (index_for c.new-site.result) c.reserve.ensures.entries in
    let numbers = c.put.ensures.numbers ∙ ap (with_number c.in-Ok.a.0 (Some c.put_row-index.result)) c.reserve-2.ensures.same ∙ ap (λ i. with_number c.in-Ok.a.0 (Some i) (numbers_of me.sites)) index in
    record {
      counted = me.counted;
      most = c.requires.size.most;
      fresh = c.in-Ok.ensures.put.fresh;
      own = put-own-site (numbers_of me.sites) (numbers_of c.put.new.self) me.rows.entries c.put_row-index.new.rows.entries c.in-Ok.a.0 c.new-site.result c.with.result numbers (rows g c);
      others = put-other-site (numbers_of me.sites) (numbers_of c.put.new.self) me.rows.entries c.put_row-index.new.rows.entries c.in-Ok.a.0 c.new-site.result c.with.result numbers (rows g c);
      row = c.row_for-row.ensures;
      few = let few = few-blocks c.new-site.result c.row_for-row.result me.counted c.row_for-row.ensures in let most = best-few me.best in omega (arith, few, most);
    }

row : (g : Over) (c : After-with g) → IsRowWith c.row_for-row.result (c.row_for-row.result.blocks + 1) (c.row_for-row.result.bytes + c.args.size) c.with.result
row g c = record { blocks = c.with.ensures.blocks; bytes = c.with.ensures.bytes; peak = c.with.ensures.peak }

pub invariant_of-self-in-Ok : goal.invariant_of-self-in-Ok
invariant_of-self-in-Ok g c =
    let h = goal.at.invariant_of-self-in-Ok g c in
    record {
      counted = subst (IsCounted (layout_of c.alloc.new.self) (sites_by (numbers_of c.put.new.self) c.put_row-index.new.rows.entries)) (sym (rows g h.After-put))
          (counted-put (block g h.After-put) _ c.args.tag c.args.align (layout_of c.alloc.new.self) c.in-Ok.ensures.answer c.with.result (row g h.After-with));
    }

pub returns-in-Ok-clause-answer : goal.returns-in-Ok-clause-answer
returns-in-Ok-clause-answer g c =
    let h = goal.at.returns-in-Ok-clause-answer g c in
    profile-put (block g h.After-put) _ c.args.tag c.args.align (layout_of c.alloc.new.self) c.in-Ok.ensures.answer c.with.result (row g h.After-with) c.args.site.now c.new-site.ensures c.put_row-index.new.rows.entries (rows g h.After-put)

pub returns-in-Ok-clause-put : goal.returns-in-Ok-clause-put
returns-in-Ok-clause-put g c =
    let me = c.args.self.now in
    from-both (λ xs ys. IsBlockPut c.args.tag c.args.size c.in-Ok.a.0 ys xs) (sites_by (numbers_of c.put.new.self) c.put_row-index.new.rows.entries) (sites_in me) (layout_of c.alloc.new.self).blocks (layout_of me.best).blocks c.in-Ok.ensures.put

pub returns-clause-answer : goal.returns-clause-answer
returns-clause-answer g c =
    let me = c.args.self.now in
    let refused = alloc-refused (sites_in me) (layout_of me.best) me.rows.entries _ c.args.tag c.new-site.result c.args.size c.args.align c.in-Err.fault c.args.site.now c.new-site.ensures c.in-Err.ensures.answer.0 in (
      refused,
      ap (λ numbers. profile (sites_by numbers c.reserve.new.self.entries) (layout_of c.alloc.new.self) c.reserve.new.self.entries) c.reserve-2.ensures.same
          ∙ (ap (λ l. profile (sites_by (numbers_of me.sites) c.reserve.new.self.entries) l c.reserve.new.self.entries) c.in-Err.ensures.answer.1
          ∙ ap (λ (es : Rows). profile (sites_by (numbers_of me.sites) es) (layout_of me.best) es) c.reserve.ensures.entries),
    )
