use Rattle.vc_base.proofs.Common.{◌≡◌, false, sym, ap, ◌∙◌, subst}
use Rattle.vc_splay.specs.Moves.{plug}
use Rattle.vc_splay.specs.Stands.{IsTree, TreeAfter}
use Rattle.vc_splay.specs.Store.{Store, with_kid, with_parent}
use Rattle.vc_splay.specs.Tree.{Node, names}
use Rattle.vc_splay.specs.Unique.{IsTree-one}
use Rattle.vc_splay.specs.Writes.{with_parent_of}
use Rattle.vc_splay.proofs.CostLemmas.{joined_back, joined_both, joined_front}
use Rattle.vc_splay.proofs.LeafLemmas.{has_kid}
use Rattle.vc_splay.proofs.PlugLemmas.{place}
use Rattle.vc_splay.proofs.SplayLemmas.{size_same, tally-within}
use Rattle.vc_splay.proofs.UnlinkLemmas.{back_alone, back_held, join_back, join_both, join_front, joined_has, last_in_tree}
use Rattle.vc_splay.proofs.unlinking.join.Goals as goal

pub returns-then-left-eq0-clause-tree : goal.returns-then-left-eq0-clause-tree
returns-then-left-eq0-clause-tree g c = λ front back p.
    rw c.set_up_of.ensures.store (join_back (g.N.Nodes.store c.args.nodes.now) c.args.left c.args.right front back (g.met.N.Nodes.none c.args.nodes.now) p c.if-left-eq0.true)

pub returns-then-right-eq0-clause-tree : goal.returns-then-right-eq0-clause-tree
returns-then-right-eq0-clause-tree g c = λ front back p.
    join_front (g.N.Nodes.store c.args.nodes.now) c.args.left c.args.right front back (g.met.N.Nodes.none c.args.nodes.now) p c.if-right-eq0.true

pub splay-top-requires : goal.splay-top-requires
splay-top-requires g c =
    record {
      tree = c.requires.front;
      is_tree = c.requires.pair.front_is;
      within = last_in_tree c.requires.front c.last-end.result (λ z. c.if-left-eq0.false (c.requires.pair.front_is.top ∙ z)) (c.last-end.ensures c.requires.front c.requires.pair.front_is);
    }

pub set_up-requires : goal.set_up-requires
set_up-requires g c =
    let s = g.N.Nodes.store c.splay-top.new.nodes in
    ap (λ (z : Store). z.has c.args.right) c.set_right.ensures.store
    ∙ ap (λ f. f c.args.right) (has_kid false c.splay-top.result c.args.right s ∙ g.met.N.Nodes.names c.args.nodes.now c.splay-top.new.nodes c.splay-top.ensures.rest)
    ∙ back_held (g.N.Nodes.store c.args.nodes.now) c.args.left c.args.right c.requires.front c.requires.back c.requires.pair c.if-right-eq0.false

pub returns-clause-tree : goal.returns-clause-tree
returns-clause-tree g c = λ front back p.
    let old = g.N.Nodes.store c.args.nodes.now in
    let s = g.N.Nodes.store c.splay-top.new.nodes in
    let top = c.splay-top.result in
    let after : TreeAfter old s (names front) top (names front) = c.splay-top.ensures.tree front p.front_is in
    rw (c.set_up.ensures.store, c.set_right.ensures.store)
    (join_both old s c.args.left c.args.right top c.last-end.result front back (g.met.N.Nodes.none c.splay-top.new.nodes) (g.met.N.Nodes.names c.args.nodes.now c.splay-top.new.nodes c.splay-top.ensures.rest) p c.if-left-eq0.false c.if-right-eq0.false
    (c.last-end.ensures front p.front_is) c.splay-top.ensures.root after).after

pub returns-then-left-eq0-clause-law : goal.returns-then-left-eq0-clause-law
returns-then-left-eq0-clause-law g c = λ front back after p j.
    let s = g.N.Nodes.store c.args.nodes.now in
    let here : IsTree (with_parent_of c.args.right 0 s) c.args.right after = subst (λ z. IsTree z c.args.right after) c.set_up_of.ensures.store j in
    joined_back front back after (back_alone s c.args.left c.args.right front back after (g.met.N.Nodes.none c.args.nodes.now) p here)

pub returns-then-right-eq0-clause-law : goal.returns-then-right-eq0-clause-law
returns-then-right-eq0-clause-law g c = λ front back after p j.
    joined_front front back after (IsTree-one (g.N.Nodes.store c.args.nodes.now) c.args.left after front (g.met.N.Nodes.none c.args.nodes.now) j p.front_is)

pub returns-clause-law : goal.returns-clause-law
returns-clause-law g c = λ front back after p j.
    let old = g.N.Nodes.store c.args.nodes.now in
    let s = g.N.Nodes.store c.splay-top.new.nodes in
    let top = c.splay-top.result in
    let right = c.args.right in
    let end = c.last-end.result in
    let new = with_parent right top (with_kid false top right s) in
    let mid : TreeAfter old s (names front) top (names front) = c.splay-top.ensures.tree front p.front_is in
    let last = c.last-end.ensures front p.front_is in
    let within = last_in_tree front end (λ z. c.if-left-eq0.false (p.front_is.top ∙ z)) last in
    let both = join_both old s c.args.left right top end front back (g.met.N.Nodes.none c.splay-top.new.nodes) (g.met.N.Nodes.names c.args.nodes.now c.splay-top.new.nodes c.splay-top.ensures.rest) p c.if-left-eq0.false c.if-right-eq0.false last c.splay-top.ensures.root mid in
    let store : g.N.Nodes.store c.set_up.new.self ≡ new = c.set_up.ensures.store ∙ ap (λ z. with_parent right top z) c.set_right.ensures.store in
    let here : IsTree new top after = subst (λ z. IsTree z top after) store j in
    let none : new.has 0 ≡ false = ap (λ f. f 0) (joined_has s top right) ∙ g.met.N.Nodes.none c.splay-top.new.nodes in
    let one = IsTree-one new top after both.after.tree none here both.after.is_tree in
    let q = place front end (tally-within end front within) in
    let start : IsTree old c.args.left (plug q.context (Node q.left end q.right)) = subst (λ z. IsTree old c.args.left z) (sym q.whole) p.front_is in
    joined_both q.context q.left end q.right front back mid.tree both.rest after top q.whole
    (c.splay-top.ensures.law q.context q.left q.right mid.tree start mid.is_tree)
    both.front_is (size_same mid.tree front mid.list) (one ∙ both.is)
