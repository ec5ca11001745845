-- What the items of a walk still spell.
use Rattle.vc_base.proofs.Common.{◌≡◌, ℕ, ◌+◌, ◌<◌, ◌≤◌, false, List, [], ◌∷◌, ◌++◌, length, sym, refl, ap, ◌∙◌, subst, arith, append_assoc, append-nil, length-append, false≢true}
use Rattle.vc_splay.specs.Store.{Store}
use Rattle.vc_splay.specs.Stands.{IsNode, Stands}
use Rattle.vc_splay.specs.Tree.{Tree, Leaf, Node, name_of, names}
use Rattle.vc_image_check.specs.Walks.Spelled.{IsSpelled}
use Rattle.vc_image_check.specs.declared.walks.walk.Item.{Item}
use Rattle.vc_image_check.specs.declared.walks.walk.Item.TheVariants.{Name, Part}

-- the names that an item spells
abbrev pub SpellsItem : Store → Item → List ℕ → Type 0
SpellsItem s (Part up at) zs = IsSpelled s up at zs
SpellsItem s (Name n) zs = zs ≡ n ∷ []

-- and those that items spell, the last one first
abbrev pub Spells : Store → List Item → List ℕ → Type 0
Spells s [] zs = zs ≡ []
Spells s (x ∷ xs) zs = (front : List ℕ) × (back : List ℕ) × (zs ≡ front ++ back) × Spells s xs front × SpellsItem s x back

-- how many of the items are names
abbrev pub weight : List Item → ℕ
weight [] = 0
weight (Part up at ∷ xs) = weight xs
weight (Name n ∷ xs) = 1 + weight xs

pub weight-append : (xs ys : List Item) → weight (xs ++ ys) ≡ weight xs + weight ys
weight-append [] ys = omega arith
weight-append (Part up at ∷ xs) ys = weight-append xs ys
weight-append (Name n ∷ xs) ys = let h = weight-append xs ys in omega arith

pub weight-least : (s : Store) (xs : List Item) (zs : List ℕ) → Spells s xs zs → weight xs ≤ length zs
weight-least s [] zs h = omega arith
weight-least s (Part up at ∷ xs) zs (f, b, e, h, i) =
    let k = weight-least s xs f h in
    let l = ap length e ∙ length-append f b in
    omega arith
weight-least s (Name n ∷ xs) zs (f, b, e, h, i) =
    let k = weight-least s xs f h in
    let l = ap length e ∙ length-append f b in
    let m : length b ≡ 1 = ap length i in
    omega arith

-- the last item spells the front
pub pushed : (s : Store) (xs : List Item) (x : Item) (front back : List ℕ) → SpellsItem s x front → Spells s xs back → Spells s (xs ++ x ∷ []) (front ++ back)
pushed s [] x front back i e = ([], front, ap (λ z. front ++ z) e ∙ append-nil front, refl, i)
pushed s (y ∷ ys) x front back i (f, b, e, h, j) =
    (front ++ f, b, ap (λ z. front ++ z) e ∙ sym (append_assoc front f b), pushed s ys x front f i h, j)

pub record Popped (s : Store) (xs : List Item) (x : Item) (zs : List ℕ) : Type 0 where
  pub front : List ℕ
  pub back : List ℕ
  pub whole : zs ≡ front ++ back
  pub item : SpellsItem s x front
  pub rest : Spells s xs back

pub popped : (s : Store) (xs : List Item) (x : Item) (zs : List ℕ) → Spells s (xs ++ x ∷ []) zs → Popped s xs x zs
popped s [] x zs (f, b, e, h, i) = record { front = b; back = []; whole = e ∙ ap (λ z. z ++ b) h ∙ sym (append-nil b); item = i; rest = refl }
popped s (y ∷ ys) x zs (f, b, e, h, i) =
    let p = popped s ys x f h in
    record {
      front = p.front;
      back = p.back ++ b;
      whole = e ∙ ap (λ z. z ++ b) p.whole ∙ append_assoc p.front p.back b;
      item = p.item;
      rest = (p.back, b, refl, p.rest, i);
    }

module _ (s : Store) (none : s.has 0 ≡ false) where
  -- nothing stands at 0
  pub spelled-none : (up at : ℕ) (zs : List ℕ) → at ≡ 0 → IsSpelled s up at zs → zs ≡ []
  spelled-none up at zs z h = by h.tree h.stands h.top h.list
    where
      by : (t : Tree) → Stands s up t → at ≡ name_of t → names t ≡ zs → zs ≡ []
      by Leaf st top list = sym list
      by (Node l n r) st top list = absurd (false≢true (sym none ∙ ap s.has (sym z ∙ top) ∙ st.0.held))

  -- a node and what its two children spell
  pub record Opened (up at : ℕ) (zs : List ℕ) : Type 0 where
    pub left : ℕ
    pub right : ℕ
    pub node : IsNode s up at left right
    pub front : List ℕ
    pub back : List ℕ
    pub first : IsSpelled s at left front
    pub second : IsSpelled s at right back
    pub whole : zs ≡ front ++ at ∷ back

  pub opened : (up at : ℕ) (zs : List ℕ) → (at ≡ 0 → ⊥) → IsSpelled s up at zs → Opened up at zs
  opened up at zs some h = by h.tree h.stands h.top h.list
    where
      by : (t : Tree) → Stands s up t → at ≡ name_of t → names t ≡ zs → Opened up at zs
      by Leaf st top list = absurd (some top)
      by (Node l n r) st top list = record {
        left = name_of l;
        right = name_of r;
        node = subst (λ z. IsNode s up z (name_of l) (name_of r)) (sym top) st.0;
        front = names l;
        back = names r;
        first = record { tree = l; stands = subst (λ z. Stands s z l) (sym top) st.1; top = refl; list = refl };
        second = record { tree = r; stands = subst (λ z. Stands s z r) (sym top) st.2; top = refl; list = refl };
        whole = sym list ∙ ap (λ z. names l ++ z ∷ names r) (sym top);
      }

  pub closed : (up at left right : ℕ) (front back : List ℕ) → IsNode s up at left right → IsSpelled s at left front → IsSpelled s at right back → IsSpelled s up at (front ++ at ∷ back)
  closed up at left right front back n f b = record {
    tree = Node f.tree at b.tree;
    stands = (subst (λ z. IsNode s up at z (name_of b.tree)) f.top (subst (λ z. IsNode s up at left z) b.top n), f.stands, b.stands);
    top = refl;
    list = ap (λ z. z ++ at ∷ names b.tree) f.list ∙ ap (λ z. front ++ at ∷ z) b.list;
  }

-- what was met and what is pending spell the tree of the root, in one way
pub record Walked (s : Store) (root most left_over : ℕ) (met : List ℕ) (pending : List Item) : Type 0 where
  pub to : (zs : List ℕ) → Spells s pending zs → IsSpelled s 0 root (met ++ zs)
  pub from : (ws : List ℕ) → IsSpelled s 0 root ws → (zs : List ℕ) × (ws ≡ met ++ zs) × Spells s pending zs
  pub count : left_over + (length met + weight pending) ≡ most

pub walked-start : (s : Store) (root most : ℕ) → Walked s root most most [] (Part 0 root ∷ [])
walked-start s root most = record {
  to = λ zs h. let (f, b, e, n, i) = h in subst (IsSpelled s 0 root) (sym (e ∙ ap (λ z. z ++ b) n)) i;
  from = λ ws h. (ws, refl, ([], ws, refl, refl, h));
  count = omega arith;
}

pub walked-end : (s : Store) (root most left_over : ℕ) (met : List ℕ) (pending : List Item) → pending ≡ [] → Walked s root most left_over met pending → IsSpelled s 0 root met
walked-end s root most left_over met pending e w = subst (IsSpelled s 0 root) (append-nil met) (w.to [] (subst (λ z. Spells s z []) (sym e) refl))

pub walked-name : (s : Store) (root most left_over n : ℕ) (met met' : List ℕ) (pending rest : List Item) → pending ≡ rest ++ Name n ∷ [] → met' ≡ met ++ n ∷ [] → Walked s root most left_over met pending → Walked s root most left_over met' rest
walked-name s root most left_over n met met' pending rest e f w = record {
  to = λ zs h. subst (IsSpelled s 0 root) (sym (ap (λ z. z ++ zs) f ∙ append_assoc met (n ∷ []) zs)) (w.to (n ∷ zs) (subst (λ z. Spells s z (n ∷ zs)) (sym e) (pushed s rest (Name n) (n ∷ []) zs refl h)));
  from = λ ws h.
      let (zs, whole, sp) = w.from ws h in
      let p = popped s rest (Name n) zs (subst (λ z. Spells s z zs) e sp) in
      (p.back, whole ∙ ap (λ z. met ++ z) (p.whole ∙ ap (λ z. z ++ p.back) p.item) ∙ sym (ap (λ z. z ++ p.back) f ∙ append_assoc met (n ∷ []) p.back), p.rest);
  count =
      let c = w.count in
      let a : weight pending ≡ weight rest + 1 = ap weight e ∙ weight-append rest (Name n ∷ []) in
      let l : length met' ≡ length met + 1 = ap length f ∙ length-append met (n ∷ []) in
      omega arith;
}

module _ (s : Store) (none : s.has 0 ≡ false) (root most left_over up at : ℕ) (met : List ℕ) (pending rest : List Item) (e : pending ≡ rest ++ Part up at ∷ []) (w : Walked s root most left_over met pending) where
  same-weight : weight pending ≡ weight rest
  same-weight = let a = ap weight e ∙ weight-append rest (Part up at ∷ []) in omega arith

  pub walked-none : at ≡ 0 → Walked s root most left_over met rest
  walked-none z = record {
    to = λ zs h. w.to zs (subst (λ y. Spells s y zs) (sym e) (pushed s rest (Part up at) [] zs (record { tree = Leaf; stands = tt; top = z; list = refl }) h));
    from = λ ws h.
        let (zs, whole, sp) = w.from ws h in
        let p = popped s rest (Part up at) zs (subst (λ y. Spells s y zs) e sp) in
        (p.back, whole ∙ ap (λ y. met ++ y) (p.whole ∙ ap (λ y. y ++ p.back) (spelled-none s none up at p.front z p.item)), p.rest);
    count = let c = w.count in let a = same-weight in omega arith;
  }

  -- what a root spells begins with what was met, and goes on with this part
  record Found (ws : List ℕ) : Type 0 where
    front : List ℕ
    back : List ℕ
    whole : ws ≡ met ++ (front ++ back)
    item : IsSpelled s up at front
    others : Spells s rest back

  found : (ws : List ℕ) → IsSpelled s 0 root ws → Found ws
  found ws h =
      let (zs, whole, sp) = w.from ws h in
      let p = popped s rest (Part up at) zs (subst (λ y. Spells s y zs) e sp) in
      record { front = p.front; back = p.back; whole = whole ∙ ap (λ y. met ++ y) p.whole; item = p.item; others = p.rest }

  pub walked-few : (at ≡ 0 → ⊥) → left_over ≡ 0 → (ws : List ℕ) → IsSpelled s 0 root ws → most < length ws
  walked-few some z ws h =
      let f = found ws h in
      let o = opened s none up at f.front some f.item in
      let c = w.count in
      let a = same-weight in
      let least = weight-least s rest f.back f.others in
      let l = ap length f.whole ∙ length-append met (f.front ++ f.back) in
      let m = length-append f.front f.back in
      let n = ap length o.whole ∙ length-append o.front (at ∷ o.back) in
      omega arith

  pub walked-not : (at ≡ 0 → ⊥) → ((left right : ℕ) → IsNode s up at left right → ⊥) → (ws : List ℕ) → IsSpelled s 0 root ws → ⊥
  walked-not some never ws h =
      let f = found ws h in
      let o = opened s none up at f.front some f.item in
      never o.left o.right o.node

  pub walked-node : (left right left_over' : ℕ) (more : List Item) → (at ≡ 0 → ⊥) → left_over ≡ left_over' + 1 → IsNode s up at left right → more ≡ rest ++ Part at right ∷ Name at ∷ Part at left ∷ [] → Walked s root most left_over' met more
  walked-node left right left_over' more some le k em =
      let three : more ≡ ((rest ++ Part at right ∷ []) ++ Name at ∷ []) ++ Part at left ∷ [] =
      em ∙ sym (append_assoc rest (Part at right ∷ []) (Name at ∷ Part at left ∷ [])) ∙ sym (append_assoc (rest ++ Part at right ∷ []) (Name at ∷ []) (Part at left ∷ [])) in
      record {
        to = λ zs h.
            let p = popped s ((rest ++ Part at right ∷ []) ++ Name at ∷ []) (Part at left) zs (subst (λ y. Spells s y zs) three h) in
            let q = popped s (rest ++ Part at right ∷ []) (Name at) p.back p.rest in
            let r = popped s rest (Part at right) q.back q.rest in
            let whole : zs ≡ (p.front ++ at ∷ r.front) ++ r.back =
            p.whole ∙ ap (λ y. p.front ++ y) (q.whole ∙ ap (λ y. y ++ q.back) q.item ∙ ap (λ y. at ∷ y) r.whole) ∙ sym (append_assoc p.front (at ∷ r.front) r.back) in
            subst (λ y. IsSpelled s 0 root (met ++ y)) (sym whole)
            (w.to ((p.front ++ at ∷ r.front) ++ r.back) (subst (λ y. Spells s y ((p.front ++ at ∷ r.front) ++ r.back)) (sym e)
            (pushed s rest (Part up at) (p.front ++ at ∷ r.front) r.back (closed s none up at left right p.front r.front k p.item r.item) r.rest)));
        from = λ ws h.
            let f = found ws h in
            let o = opened s none up at f.front some f.item in
            let first : IsSpelled s at left o.front = subst (λ y. IsSpelled s at y o.front) (sym o.node.left_kid ∙ k.left_kid) o.first in
            let second : IsSpelled s at right o.back = subst (λ y. IsSpelled s at y o.back) (sym o.node.right_kid ∙ k.right_kid) o.second in (
              o.front ++ at ∷ (o.back ++ f.back),
              f.whole ∙ ap (λ y. met ++ y) (ap (λ y. y ++ f.back) o.whole ∙ append_assoc o.front (at ∷ o.back) f.back),
              subst (λ y. Spells s y (o.front ++ at ∷ (o.back ++ f.back))) (sym three)
                  (pushed s ((rest ++ Part at right ∷ []) ++ Name at ∷ []) (Part at left) o.front (at ∷ (o.back ++ f.back)) first
                  (pushed s (rest ++ Part at right ∷ []) (Name at) (at ∷ []) (o.back ++ f.back) refl
                  (pushed s rest (Part at right) o.back f.back second f.others))),
            );
        count =
            let c = w.count in
            let a = same-weight in
            let b : weight more ≡ weight rest + 1 = ap weight em ∙ weight-append rest (Part at right ∷ Name at ∷ Part at left ∷ []) in
            omega arith;
      }
