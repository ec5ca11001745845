-- What a call on the tree of holders leaves of the blocks, and which holders it stands for then.
use Rattle.vc_base.proofs.Common.{◌≡◌, ℕ, true, false, List, [], ◌++◌, take, drop, is_some, nat_lt, Some, None, All, Option, bytes_eq, unwrap_or, sym, refl, ap, ◌∙◌, inl, inr, true≢false, arith, take-append-drop, drop-drop, w64, cases_Bool, All-weaker, bytes_eq-Decides, from_le_bytes, to_le_bytes, Blocks, bytes_at, word, KeepsBut}
use Rattle.vc_dtdisc.specs.Rules.{Rules}
use Rattle.vc_splay.specs.Stands.{TreeAfter}
use Rattle.vc_splay.specs.Store.{SameLinks}
use Rattle.vc_dtord.specs.declared.dt_ord.DtOrd.{DtOrd}
use Rattle.vc_dtord.specs.Nodes.{StaysButLinks, beside, is_link, is_node, node_store, word_bytes}
use Rattle.vc_dtord.specs.NodeLaws.{and-right, node-is, object-stays}
use Rattle.vc_dtord.specs.Ordered.{IsPlain, IsSorted, OrdTurned}
use Rattle.vc_dtord.proofs.SortedLemmas.{IsSorted-same}
use Rattle.vc_dtord.proofs.TreeLemmas.{tree-alone}

-- a link is in its bytes as its number says
link-bytes : (k : ℕ) (bytes : List ℕ) → is_link k bytes ≡ true → word_bytes k bytes ≡ to_le_bytes w64 (word k bytes)
unfolding is_link
link-bytes k bytes h =
    (bytes_eq-Decides (word_bytes k bytes) (to_le_bytes w64 (word k bytes))).0
    (and-right (nat_lt (word k bytes) 4294967296) (bytes_eq (word_bytes k bytes) (to_le_bytes w64 (word k bytes))) h)

link-same : (k : ℕ) (xs ys : List ℕ) → is_link k xs ≡ true → is_link k ys ≡ true → word k ys ≡ word k xs → word_bytes k ys ≡ word_bytes k xs
link-same k xs ys h j e = link-bytes k ys j ∙ ap (to_le_bytes w64) e ∙ sym (link-bytes k xs h)

-- three words and what is behind them are all of a block
whole : (bytes : List ℕ) → word_bytes 0 bytes ++ (word_bytes 1 bytes ++ (word_bytes 2 bytes ++ drop 24 bytes)) ≡ bytes
whole bytes =
    let third : take 8 (drop 16 bytes) ++ drop 24 bytes ≡ drop 16 bytes = ap (λ z. take 8 (drop 16 bytes) ++ z) (sym (drop-drop 8 16 bytes)) ∙ take-append-drop 8 (drop 16 bytes) in
    let second : take 8 (drop 8 bytes) ++ drop 16 bytes ≡ drop 8 bytes = ap (λ z. take 8 (drop 8 bytes) ++ z) (sym (drop-drop 8 8 bytes)) ∙ take-append-drop 8 (drop 8 bytes) in
    ap (λ z. take 8 bytes ++ (take 8 (drop 8 bytes) ++ z)) third ∙ ap (λ z. take 8 bytes ++ z) second ∙ take-append-drop 8 bytes

bytes-same : (xs ys : List ℕ) → word_bytes 0 ys ≡ word_bytes 0 xs → word_bytes 1 ys ≡ word_bytes 1 xs → word_bytes 2 ys ≡ word_bytes 2 xs → drop 24 ys ≡ drop 24 xs → ys ≡ xs
bytes-same xs ys first second third rest =
    sym (whole ys)
    ∙ ap (λ z. z ++ (word_bytes 1 ys ++ (word_bytes 2 ys ++ drop 24 ys))) first
    ∙ ap (λ z. word_bytes 0 xs ++ (z ++ (word_bytes 2 ys ++ drop 24 ys))) second
    ∙ ap (λ z. word_bytes 0 xs ++ (word_bytes 1 xs ++ (z ++ drop 24 ys))) third
    ∙ ap (λ z. word_bytes 0 xs ++ (word_bytes 1 xs ++ (word_bytes 2 xs ++ z))) rest
    ∙ whole xs

there-same : (o p : Option (List ℕ)) → is_some p ≡ is_some o → unwrap_or p [] ≡ unwrap_or o [] → p ≡ o
there-same None None h e = refl
there-same None (Some y) h e = absurd (true≢false h)
there-same (Some x) None h e = absurd (true≢false (sym h))
there-same (Some x) (Some y) h e = ap (λ z. Some z) e

-- one whose links stay stays
block-same : (b b' : Blocks) (mark mark' a : ℕ) → StaysButLinks b b' → SameLinks (beside mark (node_store b)) (beside mark' (node_store b')) a → b' a ≡ b a
block-same b b' mark mark' a s same = elim (cases_Bool (is_node b a)) as (λ _. b' a ≡ b a) [
  | inl node ↦
      let p = node-is b a node in
      let q = node-is b' a (s.nodes a ∙ node) in
      let xs = bytes_at b a in
      let ys = bytes_at b' a in
      there-same (b a) (b' a) (s.there a)
      (bytes-same xs ys
      (link-same 0 xs ys (p.links 0 (omega arith)) (q.links 0 (omega arith)) (same.kid true))
      (link-same 1 xs ys (p.links 1 (omega arith)) (q.links 1 (omega arith)) (same.kid false))
      (link-same 2 xs ys (p.links 2 (omega arith)) (q.links 2 (omega arith)) same.parent)
      (s.behind a))
  | inr none ↦ s.others a none
]

-- word 3 stays
plain-stays : (b b' : Blocks) (a : ℕ) → StaysButLinks b b' → IsPlain b a → IsPlain b' a
unfolding word
plain-stays b b' a s p = ap (λ z. from_le_bytes w64 (take 8 z)) (s.behind a) ∙ p

-- after a call that leaves a tree of these holders
module _ (rules : Rules) (b b' : Blocks) (mark mark' : ℕ) (s : StaysButLinks b b') (touched ys : List ℕ) (new : DtOrd) (t : TreeAfter (beside mark (node_store b)) (beside mark' (node_store b')) touched new.root.0 ys) where
  pub keeps-after : KeepsBut touched b b'
  keeps-after = record {
    there = s.there;
    sizes = s.sizes;
    bodies = λ a. object-stays b b' a s;
    others = λ a h. block-same b b' mark mark' a s (t.others a h);
  }

  pub turned : All (IsPlain b) ys → IsSorted rules b ys → OrdTurned rules touched b new b' ys
  turned plain sorted = record {
    stands = record {
      tree = t.tree;
      is_tree = tree-alone b' mark' new.root.0 t.tree t.is_tree;
      list = t.list;
      plain = All-weaker (IsPlain b) (IsPlain b') (λ a p. plain-stays b b' a s p) ys plain;
      sorted = IsSorted-same rules b b' ys (λ a w. object-stays b b' a s) sorted;
    };
    keeps = keeps-after;
  }
