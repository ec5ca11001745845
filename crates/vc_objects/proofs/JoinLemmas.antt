-- Where an ordered list of holders is read down to, and one more holder that hangs there.
use Rattle.vc_base.proofs.Common.{◌≡◌, ℕ, ◌+◌, ◌≤◌, Bool, true, false, cond, ◌≢◌, List, [], ◌∷◌, length, find, is_some, is_gt, is_eq, Some, Ordering, sym, refl, ap, ◌∙◌, subst, inl, inr, true≢false, arith, and_from, eqb_tells, Blocks, contains, is_ordered}
use Rattle.vc_base.specs.declared.addr.Addr.{Addr}
use Rattle.vc_base.proofs.Members.{within-head, within-tail}
use Rattle.vc_dtdisc.specs.Finds.{object_at}
use Rattle.vc_dtdisc.specs.Rules.{Rules}
use Rattle.vc_dtord.specs.declared.dt_ord.DtOrd.{DtOrd}
use Rattle.vc_dtord.specs.NodeLaws.{beside-none, node-none}
use Rattle.vc_dtord.specs.Nodes.{StaysButLinks, beside, is_node, node_store, stands_to, stands_to_holder}
use Rattle.vc_dtord.specs.Ordered.{CanLink, OrdFor, OrdTurned, order_with}
use Rattle.vc_dtord.specs.WordWrites.{IsHolderCleared}
use Rattle.vc_dtord.proofs.CallLemmas.{linked-in}
use Rattle.vc_dtord.proofs.TreeLemmas.{tree-beside, tree-over}
use Rattle.vc_dict.specs.Changes.{order_by_link}
use Rattle.vc_dict.specs.Stands.{HeadsTurned, IsForm}
use Rattle.vc_dict.specs.declared.dict.Dict.{Dict}
use Rattle.vc_dict.specs.declared.form.Form.{Form}
use Rattle.vc_dict.specs.declared.form.Form.TheVariants.{Order}
use Rattle.vc_dict.proofs.DictLemmas.{turned-ord}
use Rattle.vc_dict.proofs.HeadLemmas.{linked-ord}
use Rattle.vc_splay.specs.Guide.{first_at, order_with_name}
use Rattle.vc_splay.specs.Moves.{Context, Top, Under, name_at, plug, tally}
use Rattle.vc_splay.specs.Searches.{Gap}
use Rattle.vc_splay.specs.Stands.{IsTree, TreeAfter}
use Rattle.vc_splay.specs.Tree.{Tree, Leaf, names}
use Rattle.vc_splay.specs.Unique.{IsTree-one}
use Rattle.vc_splay.proofs.LeafLemmas.{gap_most}
use Rattle.vc_splay.proofs.SearchLemmas.{within_tally}
use Rattle.vc_splay.proofs.TallyLemmas.{one-same, tally-plug}
use Rattle.vc_objects.specs.declared.puts.place.Place.{Place}
use Rattle.vc_objects.specs.declared.puts.place.Place.TheVariants.{Taken, Free}
use Rattle.vc_objects.specs.Puts.Joins.{Joins, LeadsTo}
use Rattle.vc_objects.specs.Puts.Places.{CanHang, EndsAt}

-- a name that passes a test is found, or one before it
found-within : (test : ℕ → Bool) (xs : List ℕ) (n : ℕ) → contains xs n ≡ true → test n ≡ true → is_some (find test xs) ≡ true
found-within test [] n w p = absurd (true≢false (sym w))
found-within test (x ∷ xs) n w p = elim (eqb_tells x n) as (λ _. is_some (find test (x ∷ xs)) ≡ true) [
  | inl same ↦ rw (ap test same.1 ∙ p) refl
  | inr apart ↦ by (test x) (found-within test xs n (rw apart.0 at w) p)
]
  where
    by : (t : Bool) → is_some (find test xs) ≡ true → is_some (cond t (Some x) (find test xs)) ≡ true
    by true h = refl
    by false h = h

-- the node above a place is one of the tree
above-within : (c : Context) (t : Tree) (above : ℕ) → plug c Leaf ≡ t → above ≡ name_at c → above ≢ 0 → contains (names t) above ≡ true
above-within Top t above whole e some = absurd (some e)
above-within (Under d n sibling c) t above whole e some =
    let a = tally-plug n (Under d n sibling c) Leaf in
    let b = one-same n n refl in
    let k = ap (tally n) whole in
    subst (λ z. contains (names t) z ≡ true) (sym e) (within_tally n t (omega arith))

-- a list's tree was read down
module _ (rules : Rules) (ord : DtOrd) (b : Blocks) (key xs : List ℕ) (s : OrdFor rules ord b xs) where
  abbrev side : ℕ → Ordering
  side = stands_to rules b key

  pub leads : (place : Place) (start now : ℕ) → EndsAt place side s.tree start now → LeadsTo place rules ord b key xs start now
  leads (Taken at) start now h = record {
    place_is = record {
      within = sym (ap (λ ys. contains ys at) s.list) ∙ h.within;
      found = found-within (λ n. is_eq (side n)) xs at (sym (ap (λ ys. contains ys at) s.list) ∙ h.within) h.equal;
    };
    steps = subst (λ ys. now ≤ start + length ys) s.list h.steps;
  }
  leads (Free above left) start now h = record {
    place_is = record {
      none = sym (ap (first_at side) s.list) ∙ h.none;
      gap = λ t k. subst (λ z. Gap side z above left start now) (IsTree-one (node_store b) ord.root.0 s.tree t (node-none b) s.is_tree k) h.gap;
      within = λ some. sym (ap (λ ys. contains ys above) s.list) ∙ above-within h.gap.context s.tree above h.gap.whole h.gap.above_is some;
    };
    steps = subst (λ ys. now ≤ start + length ys) s.list (gap_most side s.tree above left start now h.gap);
  }

-- the place of a name depends on how the names of the list stand alone
placed-same : (side other : ℕ → Ordering) (at : ℕ) (xs : List ℕ) → ((x : ℕ) → contains xs x ≡ true → side x ≡ other x) → order_with_name side at xs ≡ order_with_name other at xs
placed-same side other at [] e = refl
placed-same side other at (x ∷ xs) e =
    ap (λ o. cond (is_gt o) (at ∷ x ∷ xs) (x ∷ order_with_name side at xs)) (e x (within-head x xs))
    ∙ ap (λ ys. cond (is_gt (other x)) (at ∷ x ∷ xs) (x ∷ ys)) (placed-same side other at xs (λ y w. e y (within-tail x xs y w)))

-- a holder whose words are 0 hangs in its place
module _ (rules : Rules) (ord : DtOrd) (b b' : Blocks) (mark : Addr) (above : ℕ) (left : Bool) (xs : List ℕ) (j : Joins rules ord b mark.0 above left xs) (w : IsHolderCleared b b' mark.0) where
  abbrev t : Tree
  t = j.stands.tree

  abbrev new : DtOrd
  new = record { root = mark }

  tree-there : IsTree (beside mark.0 (node_store b')) ord.root.0 t
  tree-there =
      tree-beside b' mark.0 ord.root.0 t w.node
      (tree-over b b' ord.root.0 t (λ n h. w.written.others n (λ e. true≢false (sym h ∙ ap (λ ys. contains ys n) j.stands.list ∙ ap (contains xs) e ∙ j.apart))) j.stands.is_tree)

  apart-tree : contains (names t) mark.0 ≡ false
  apart-tree = ap (λ ys. contains ys mark.0) j.stands.list ∙ j.apart

  pub can-hang : CanHang (beside mark.0 (node_store b')) mark.0 above left
  can-hang = record {
    root = ord.root.0;
    tree = t;
    is_tree = tree-there;
    held = and_from (is_node b' mark.0) (is_node b' mark.0) w.node w.node;
    apart = apart-tree;
    side = j.side;
    start = j.start;
    now = j.now;
    gap = j.gap t j.stands.is_tree;
  }

  can-link : CanLink rules ord b mark.0
  can-link = record { holders = xs; stands = j.stands; apart = j.apart; holder = j.holder }

  side-same : (x : ℕ) → contains (names t) x ≡ true → j.side x ≡ stands_to_holder rules b' mark.0 x
  side-same x h =
      j.sides x (sym (ap (λ ys. contains ys x) j.stands.list) ∙ h)
      ∙ ap (λ o. rules.compare (rules.key o) (rules.key (object_at b mark.0))) (sym (w.written.bodies x))
      ∙ ap (λ o. rules.compare (rules.key (object_at b' x)) (rules.key o)) (sym (w.written.bodies mark.0))

  pub hung-in : (b'' : Blocks) (mark' : ℕ) → StaysButLinks b' b''
      → ((root : ℕ) (tree : Tree) (side : ℕ → Ordering) (start now : ℕ) → IsTree (beside mark.0 (node_store b')) root tree → contains (names tree) mark.0 ≡ false → Gap side tree above left start now
      → TreeAfter (beside mark.0 (node_store b')) (beside mark' (node_store b'')) (mark.0 ∷ names tree) mark.0 (order_with_name side mark.0 (names tree)))
      → OrdTurned rules (mark.0 ∷ xs) b new b'' (order_with rules b mark.0 xs)
  hung-in b'' mark' stays f =
      let Hangs : Tree → List ℕ → Type 0 = λ z ys. TreeAfter (beside mark.0 (node_store b')) (beside mark' (node_store b'')) (mark.0 ∷ names z) mark.0 ys in
      let there : Hangs t (order_with_name (stands_to_holder rules b' mark.0) mark.0 (names t)) =
      subst (Hangs t) (placed-same j.side (stands_to_holder rules b' mark.0) mark.0 (names t) side-same)
      (f ord.root.0 t j.side j.start j.now tree-there apart-tree (j.gap t j.stands.is_tree)) in
      linked-in rules j.order ord b b' mark.0 can-link w b'' mark' new stays
      (λ u k. subst (λ z. Hangs z (order_with_name (stands_to_holder rules b' mark.0) mark.0 (names z)))
      (IsTree-one (beside mark.0 (node_store b')) ord.root.0 t u (beside-none b' mark.0) tree-there k) there)
      xs j.stands

-- so in a dictionary
pub ordered-form : (d : Dict) (ord : DtOrd) → d.heads ≡ Order ord → IsForm d.method d.heads → is_ordered d.method ≡ true
ordered-form d ord e f = subst (λ z. IsForm d.method z) e f

pub heads-joined : (rules : Rules) (d : Dict) (ord new : DtOrd) (b b' : Blocks) (at : ℕ) (xs : List ℕ) → d.heads ≡ Order ord → IsForm d.method d.heads → OrdTurned rules (at ∷ xs) b new b' (order_with rules b at xs)
    → HeadsTurned rules (at ∷ xs) d.heads b (Order new) b' (order_by_link false d.method rules b d.current.0 at xs)
heads-joined rules d ord new b b' at xs e f t =
    subst (λ ys. HeadsTurned rules (at ∷ xs) d.heads b (Order new) b' ys) (sym (linked-ord false d.method rules b d.current.0 at xs (ordered-form d ord e f) (λ h. absurd (true≢false (sym h)))))
    (subst (λ (z : Form). HeadsTurned rules (at ∷ xs) z b (Order new) b' (order_with rules b at xs)) (sym e) (turned-ord rules ord new (at ∷ xs) b b' (order_with rules b at xs) t))
