-- What the calls ask of the tree of holders, and what they answer.
use Rattle.vc_base.proofs.Common.{◌≡◌, ℕ, ◌+◌, ◌≤◌, Bool, true, false, cond, List, [], ◌∷◌, length, All, sym, ap, ◌∙◌, subst, true≢false, and_from, All-cons, All-head, All-tail, IsTotalOrder, Blocks, contains, without}
use Rattle.vc_base.specs.declared.addr.Addr.{Addr}
use Rattle.vc_base.proofs.Members.{apart-head}
use Rattle.vc_dtdisc.specs.Finding.{put_before}
use Rattle.vc_dtdisc.specs.Finds.{object_at}
use Rattle.vc_dtdisc.specs.Rules.{Rules}
use Rattle.vc_dtlist.proofs.PlainLemmas.{All-without}
use Rattle.vc_splay.specs.Guide as guide
use Rattle.vc_splay.specs.Guide.{CanFind, Rises, order_with_name}
use Rattle.vc_splay.specs.Stands.{HasTree, IsIn, IsTree, IsWithin, TreeAfter}
use Rattle.vc_splay.specs.Tree.{Tree, names}
use Rattle.vc_dtord.specs.declared.dt_ord.DtOrd.{DtOrd}
use Rattle.vc_dtord.specs.Nodes.{StaysButLinks, beside, is_node, node_store, stands_to, stands_to_holder}
use Rattle.vc_dtord.specs.Ordered.{CanLink, IsLinked, IsOrd, IsOrdered, IsPlain, OrdFor, OrdTurned, is_less, order_with}
use Rattle.vc_dtord.specs.WordWrites.{IsHolderCleared}
use Rattle.vc_dtord.proofs.SortedLemmas.{IsSorted-placed, IsSorted-rises, IsSorted-same, IsSorted-without, less-same, linked-placed}
use Rattle.vc_dtord.proofs.TreeLemmas.{OrdFor-node, OrdFor-one, OrdFor-same, tree-beside, tree-beside_root}
use Rattle.vc_dtord.proofs.TurnLemmas.{turned}

All-placed : (P : ℕ → Type 0) (test : ℕ → Bool) (at : ℕ) (xs : List ℕ) → All P xs → P at → All P (put_before test at xs)
All-placed P test at [] h p = All-cons P at [] p h
All-placed P test at (x ∷ xs) h p = elim (test x) as (λ z. All P (cond z (at ∷ x ∷ xs) (x ∷ put_before test at xs))) [
  | true ↦ All-cons P at (x ∷ xs) p h
  | false ↦ All-cons P x (put_before test at xs) (All-head P x xs h) (All-placed P test at xs (All-tail P x xs h) p)
]

-- a link: over blocks in which the words of the new holder are 0
module _ (rules : Rules) (order : IsTotalOrder rules.compare) (ord : DtOrd) (b b' : Blocks) (at : ℕ) (c : CanLink rules ord b at) (w : IsHolderCleared b b' at) where
  apart-each : (xs : List ℕ) → OrdFor rules ord b xs → contains xs at ≡ false
  apart-each xs s = subst (λ ys. contains ys at ≡ false) (OrdFor-one rules rules ord b c.holders xs c.stands s) c.apart

  pub cleared : (xs : List ℕ) → OrdFor rules ord b xs → OrdFor rules ord b' xs
  cleared xs s =
      OrdFor-same rules ord b b' xs
      (λ a h. w.written.others a (λ e. true≢false (sym h ∙ ap (contains xs) e ∙ apart-each xs s))) s

  pub tree-cleared : (xs : List ℕ) (s : OrdFor rules ord b xs) → IsTree (beside at (node_store b')) ord.root.0 (cleared xs s).tree
  tree-cleared xs s = let k = cleared xs s in tree-beside b' at ord.root.0 k.tree w.node k.is_tree

  pub can_link : guide.CanLink (beside at (node_store b')) (stands_to_holder rules b' at) ord.root.0 at
  can_link =
      let s = cleared c.holders c.stands in
      record {
        tree = s.tree;
        is_tree = tree-cleared c.holders c.stands;
        rises = subst (λ ys. Rises (stands_to_holder rules b' at) ys) (sym s.list) (IsSorted-rises rules order b' (rules.key (object_at b' at)) c.holders s.sorted);
        held = and_from (is_node b' at) (is_node b' at) w.node w.node;
        apart = ap (λ ys. contains ys at) s.list ∙ c.apart;
      }

  list-linked : (xs : List ℕ) → order_with_name (stands_to_holder rules b' at) at xs ≡ order_with rules b at xs
  list-linked xs = linked-placed (stands_to_holder rules b' at) (is_less rules b at) at xs (λ x. less-same rules b b' at x (w.written.bodies at) (w.written.bodies x))

  pub linked-in : (b'' : Blocks) (mark' : ℕ) (new : DtOrd) → StaysButLinks b' b''
      → ((t : Tree) → IsTree (beside at (node_store b')) ord.root.0 t → TreeAfter (beside at (node_store b')) (beside mark' (node_store b'')) (at ∷ names t) new.root.0 (order_with_name (stands_to_holder rules b' at) at (names t)))
      → (xs : List ℕ) → OrdFor rules ord b xs → OrdTurned rules (at ∷ xs) b new b'' (order_with rules b at xs)
  linked-in b'' mark' new stays f xs s =
      let k = cleared xs s in
      let After : List ℕ → List ℕ → Type 0 = λ touched ys. TreeAfter (beside at (node_store b')) (beside mark' (node_store b'')) touched new.root.0 ys in
      let there : After (at ∷ xs) (order_with_name (stands_to_holder rules b' at) at xs) =
      subst (λ ys. After (at ∷ ys) (order_with_name (stands_to_holder rules b' at) at ys)) k.list (f k.tree (tree-cleared xs s)) in
      let t : After (at ∷ xs) (order_with rules b at xs) = subst (λ ys. After (at ∷ xs) ys) (list-linked xs) there in
      let done : OrdTurned rules (at ∷ xs) b' new b'' (order_with rules b at xs) =
      turned rules b' b'' at mark' stays (at ∷ xs) (order_with rules b at xs) new t
      (All-placed (IsPlain b') (is_less rules b at) at xs k.plain w.last)
      (IsSorted-same rules b b' (order_with rules b at xs) (λ a h. w.written.bodies a) (IsSorted-placed rules b at xs order s.sorted)) in
      record {
        stands = done.stands;
        keeps = record {
          there = λ a. done.keeps.there a ∙ w.written.there a;
          sizes = λ a. done.keeps.sizes a ∙ w.written.sizes a;
          bodies = λ a. done.keeps.bodies a ∙ w.written.bodies a;
          others = λ a h. done.keeps.others a h ∙ w.written.others a (λ e. apart-head at xs a h (sym e));
        };
      }

  pub steps-linked : (before now : ℕ) → ((t : Tree) → IsTree (beside at (node_store b')) ord.root.0 t → now ≤ before + length (names t)) → (xs : List ℕ) → OrdFor rules ord b xs → now ≤ before + length xs
  steps-linked before now f xs s = subst (λ ys. now ≤ before + length ys) (cleared xs s).list (f (cleared xs s).tree (tree-cleared xs s))

-- an unlink: beside the one that goes
module _ (ord : DtOrd) (b : Blocks) (at : ℕ) (c : IsLinked ord b at) where
  pub within-each : (rules : Rules) (xs : List ℕ) → OrdFor rules ord b xs → contains xs at ≡ true
  within-each rules xs s = subst (λ ys. contains ys at ≡ true) (OrdFor-one c.rules rules ord b c.holders xs c.stands s) c.within

  mark-there : is_node b at ≡ true
  mark-there = OrdFor-node c.rules ord b c.holders at c.stands c.within

  pub is_in : IsIn (beside at (node_store b)) ord.root.0 at
  is_in = record {
    tree = c.stands.tree;
    is_tree = tree-beside b at ord.root.0 c.stands.tree mark-there c.stands.is_tree;
    within = ap (λ ys. contains ys at) c.stands.list ∙ c.within;
  }

  pub beside_there : (t : Tree) → IsTree (node_store b) ord.root.0 t → IsTree (beside at (node_store b)) ord.root.0 t
  beside_there t h = tree-beside b at ord.root.0 t mark-there h

  pub unlinked : (b' : Blocks) (mark' : ℕ) (new : DtOrd) → StaysButLinks b b'
      → ((t : Tree) → IsTree (beside at (node_store b)) ord.root.0 t → TreeAfter (beside at (node_store b)) (beside mark' (node_store b')) (names t) new.root.0 (without at (names t)))
      → (rules : Rules) (xs : List ℕ) → OrdFor rules ord b xs → OrdTurned rules xs b new b' (without at xs)
  unlinked b' mark' new stays f rules xs s =
      turned rules b b' at mark' stays xs (without at xs) new
      (subst (λ ys. TreeAfter (beside at (node_store b)) (beside mark' (node_store b')) ys new.root.0 (without at ys)) s.list (f s.tree (tree-beside b at ord.root.0 s.tree mark-there s.is_tree)))
      (All-without (IsPlain b) xs at s.plain)
      (IsSorted-without rules b xs at s.sorted)

  -- and a neighbour, over cells that are lent for reading
  pub is_within : IsWithin (node_store b) at
  is_within = record {
    root = ord.root.0;
    is_in = record { tree = c.stands.tree; is_tree = c.stands.is_tree; within = ap (λ ys. contains ys at) c.stands.list ∙ c.within };
  }

  pub within-tree : (rules : Rules) (xs : List ℕ) (s : OrdFor rules ord b xs) → contains (names s.tree) at ≡ true
  within-tree rules xs s = ap (λ ys. contains ys at) s.list ∙ within-each rules xs s

pub has_tree : (ord : DtOrd) (b : Blocks) → IsOrdered ord b → HasTree (node_store b) ord.root.0
has_tree ord b c = record { tree = c.is.stands.tree; is_tree = c.is.stands.is_tree }

-- a tree stands beside its root too
pub beside_root : (ord : DtOrd) (b : Blocks) (mark : Addr) → mark ≡ ord.root → (t : Tree) → IsTree (node_store b) ord.root.0 t → IsTree (beside mark.0 (node_store b)) ord.root.0 t
beside_root ord b mark e t h = tree-beside_root b mark.0 ord.root.0 t (ap (λ a. a.0) e) h

-- a find: beside a holder where the tree stands
module _ (rules : Rules) (ord : DtOrd) (b : Blocks) (mark : ℕ) (here : (t : Tree) → IsTree (node_store b) ord.root.0 t → IsTree (beside mark (node_store b)) ord.root.0 t) where
  pub tree-found : (xs : List ℕ) (s : OrdFor rules ord b xs) → IsTree (beside mark (node_store b)) ord.root.0 s.tree
  tree-found xs s = here s.tree s.is_tree

  pub can_find : IsTotalOrder rules.compare → (key : List ℕ) → IsOrd rules ord b → CanFind (beside mark (node_store b)) (stands_to rules b key) ord.root.0
  can_find order key c =
      let s = c.stands in
      record {
        tree = s.tree;
        is_tree = tree-found c.holders s;
        rises = subst (λ ys. Rises (stands_to rules b key) ys) (sym s.list) (IsSorted-rises rules order b key c.holders s.sorted);
      }

  pub kept-found : (b' : Blocks) (mark' : ℕ) (new : DtOrd) → StaysButLinks b b'
      → ((t : Tree) → IsTree (beside mark (node_store b)) ord.root.0 t → TreeAfter (beside mark (node_store b)) (beside mark' (node_store b')) (names t) new.root.0 (names t))
      → (xs : List ℕ) → OrdFor rules ord b xs → OrdTurned rules xs b new b' xs
  kept-found b' mark' new stays f xs s =
      turned rules b b' mark mark' stays xs xs new
      (subst (λ ys. TreeAfter (beside mark (node_store b)) (beside mark' (node_store b')) ys new.root.0 ys) s.list (f s.tree (tree-found xs s)))
      s.plain s.sorted

  pub steps-found : (before now : ℕ) → ((t : Tree) → IsTree (beside mark (node_store b)) ord.root.0 t → now ≤ before + length (names t)) → (xs : List ℕ) → OrdFor rules ord b xs → now ≤ before + length xs
  steps-found before now f xs s = subst (λ ys. now ≤ before + length ys) s.list (f s.tree (tree-found xs s))
