-- A holder is put, and hangs where an ordered dictionary was read down to with its key.
use Rattle.vc_base.proofs.Common.{◌≡◌, ℕ, ◌+◌, Bool, true, ◌≢◌, List, [], length, drop, is_some, Some, unwrap_or, sym, ap, ◌∙◌, subst, arith, length-drop, take_all, Blocks, IsHolder, body_of, bytes_at, contains, with_bytes}
use Rattle.vc_base.specs.Cells.{with_body}
use Rattle.vc_base.proofs.CellsLemmas.{put_other, put_same, window_same}
use Rattle.vc_base.proofs.Overwrites.{length-with_bytes}
use Rattle.vc_dtdisc.specs.Finds.{object_at}
use Rattle.vc_dtdisc.specs.Rules.{Rules}
use Rattle.vc_dtord.specs.declared.dt_ord.DtOrd.{DtOrd}
use Rattle.vc_dtord.specs.NodeLaws.{node-none}
use Rattle.vc_dtord.specs.Nodes.{node_store, stands_to, stands_to_holder}
use Rattle.vc_dtord.specs.Ordered.{IsLinked, OrdFor}
use Rattle.vc_dtord.proofs.TreeLemmas.{tree-over}
use Rattle.vc_dict.specs.Listed.{holders_of}
use Rattle.vc_dict.specs.Stands.{HeadsFor, Stands}
use Rattle.vc_dict.specs.declared.dict.Dict.{Dict}
use Rattle.vc_splay.specs.Searches.{Gap}
use Rattle.vc_splay.specs.Unique.{IsTree-one}
use Rattle.vc_objects.specs.Unlabelled.{MakesCell}
use Rattle.vc_objects.proofs.Holding.{body-length, stands-put}
use Rattle.vc_objects.proofs.Owning.{cell-kept, holder-apart, none-there}
use Rattle.vc_objects.specs.Puts.Joins.{CanJoinDict, IsGap, Joins}
use Rattle.vc_objects.specs.Puts.Puts.{CanHold}

-- a body that is written whole is read back
body-written : (body bytes : List ℕ) → length body + 32 ≡ length bytes → drop 32 (with_bytes 32 body bytes) ≡ body
body-written body bytes long =
    let same = length-with_bytes 32 body bytes (omega (arith, long)) in
    let rest : length (drop 32 (with_bytes 32 body bytes)) ≡ length body = length-drop 32 (with_bytes 32 body bytes) ∙ omega (arith, long, same) in
    sym (take_all (length body) (drop 32 (with_bytes 32 body bytes)) (omega (arith, rest))) ∙ window_same 32 body bytes (omega (arith, long))

module _ (rules : Rules) (d : Dict) (ord : DtOrd) (B0 : Blocks) (bytes : List ℕ) (above : ℕ) (left : Bool) (can : CanHold rules d B0 ord bytes above left) where
  abbrev hs : List ℕ
  hs = holders_of d B0

  pub ord-stands : OrdFor rules ord B0 hs
  ord-stands = subst (λ z. HeadsFor rules z B0 hs) can.form can.whole.stands.heads

  -- the holder above the place is one of them
  pub above-linked : (b : Blocks) → b ≡ B0 → above ≢ 0 → IsLinked ord b above
  above-linked b same some = record {
    rules = rules;
    holders = hs;
    stands = subst (λ z. OrdFor rules ord z hs) (sym same) ord-stands;
    within = can.place.within some;
  }

  module _ (B1 B2 : Blocks) (at : ℕ) (cell : MakesCell B0 (32 + length bytes) at B1) (written : B2 ≡ with_body at bytes B1) where
    long : length bytes + 32 ≡ length (bytes_at B1 at)
    long = body-length rules d B0 B1 B2 at bytes can.whole cell can.object written

    shows-body : B2 at ≡ Some (with_bytes 32 bytes (bytes_at B1 at))
    shows-body = ap (λ (f : Blocks). f at) written ∙ put_same at (with_bytes 32 bytes (bytes_at B1 at)) B1

    object-put : object_at B2 at ≡ bytes
    object-put = ap (λ o. body_of (unwrap_or o [])) shows-body ∙ body-written bytes (bytes_at B1 at) long

    holder : IsHolder B2 at
    holder =
        let least = can.object.least in
        let is = long in
        let same : length (bytes_at B2 at) ≡ length (bytes_at B1 at) = ap (λ o. length (unwrap_or o [])) shows-body ∙ length-with_bytes 32 bytes (bytes_at B1 at) (omega (arith, is)) in
        record { there = ap is_some shows-body; enough = omega (arith, same, is, least) }

    kept : (a : ℕ) → contains hs a ≡ true → B2 a ≡ B0 a
    kept a w =
        let ne = holder-apart can.whole.stands cell a w in
        ap (λ (f : Blocks). f a) written ∙ (put_other a at (with_bytes 32 bytes (bytes_at B1 at)) B1 ne ∙ cell-kept can.whole.stands cell a ne)

    -- the list stands as it did, and its tree, in which the place is the same
    pub stands-after : Stands rules d B2 hs
    stands-after = stands-put rules d B0 B1 B2 at bytes can.whole cell can.object written

    place-after : IsGap (stands_to rules B0 (rules.key bytes)) ord B2 above left can.start can.now
    place-after tree k =
        let s = ord-stands in
        let there = tree-over B0 B2 ord.root.0 s.tree (λ n w. kept n (sym (ap (λ ys. contains ys n) s.list) ∙ w)) s.is_tree in
        subst (λ z. Gap (stands_to rules B0 (rules.key bytes)) z above left can.start can.now)
        (IsTree-one (node_store B2) ord.root.0 s.tree tree (node-none B2) there k) (can.place.gap s.tree s.is_tree)

    side-after : (a : ℕ) → contains hs a ≡ true → stands_to rules B0 (rules.key bytes) a ≡ stands_to_holder rules B2 at a
    side-after a w =
        ap (λ o. rules.compare (rules.key o) (rules.key bytes)) (ap (λ o. body_of (unwrap_or o [])) (sym (kept a w)))
        ∙ ap (λ o. rules.compare (rules.key (object_at B2 a)) (rules.key o)) (sym object-put)

    pub joins : Joins rules ord B2 at above left hs
    joins = record {
      order = can.order;
      stands = subst (λ z. HeadsFor rules z B2 hs) can.form stands-after.heads;
      apart = none-there can.whole.stands cell;
      holder = holder;
      side = stands_to rules B0 (rules.key bytes);
      start = can.start;
      now = can.now;
      gap = place-after;
      sides = side-after;
    }

    pub can-join : CanJoinDict d B2 at above left
    can-join = record { rules = rules; ord = ord; holders = hs; stands = stands-after; form = can.form; joins = joins }
