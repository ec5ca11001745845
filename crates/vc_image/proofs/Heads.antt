-- The head of an image, item by item.
use Rattle.vc_base.proofs.Common.{◌≡◌, ℕ, ◌+◌, ◌<◌, ◌/◌, ◌%◌, List, [], ◌∷◌, ◌++◌, length, take, get_or, map, flat_map, sym, refl, ap, ap₂, ◌∙◌, arith, length-map}
use Rattle.std.proofs.lemmas.List.{flat_map_more, take_more}
use Rattle.vc_seg.specs.Segment.{Bytes, pair_of}
use Rattle.vc_image_check.specs.Bytes.Image.{ImageContents, image_of, magic, number_bytes, pair_bytes, row_bytes}
use Rattle.vc_base.specs.Methods.{method_number}
use Rattle.vc_dict.specs.declared.dict.Dict.{Dict}
use Rattle.vc_dict.specs.declared.heads.Heads.{Heads}
use Rattle.vc_dict.specs.Parts.{heads_in}
use Rattle.vc_image.specs.Save.{contents_by, dict_row, head_of, image_body}

-- one item more behind those that are put
pub one-more : {X : Type 0} (text : X → List ℕ) (begun : List ℕ) (items : List X) (i : ℕ) (d : X) {line next : List ℕ} → i < length items → line ≡ begun ++ flat_map text (take i items) → next ≡ line ++ text (get_or items i d) → next ≡ begun ++ flat_map text (take (i + 1) items)
one-more text begun items i d within so_far put =
    put
    ∙ ap (λ t. t ++ text (get_or items i d)) so_far
    ∙ flat_map_more text begun (take i items) (get_or items i d)
    ∙ ap (λ xs. begun ++ flat_map text xs) (sym (take_more items i d within))

-- the lower four bytes of a number
pub low-bytes : (n : ℕ) → number_bytes (n % 4294967296) ≡ number_bytes n
unfolding number_bytes
low-bytes n =
    let a : n % 4294967296 % 256 ≡ n % 256 = omega arith in
    let b : n % 4294967296 / 256 % 256 ≡ n / 256 % 256 = omega arith in
    let c : n % 4294967296 / 65536 % 256 ≡ n / 65536 % 256 = omega arith in
    let d : n % 4294967296 / 16777216 % 256 ≡ n / 16777216 % 256 = omega arith in
    λ i. a i ∷ b i ∷ c i ∷ d i ∷ []

-- the parts of a head, one behind the other
pub head-is : (root : ℕ) (segs : List Bytes) (dicts : List Dict) (a b d e : List ℕ) → a ≡ magic → b ≡ a ++ flat_map number_bytes (length segs ∷ root ∷ length dicts ∷ []) → d ≡ b ++ flat_map pair_bytes (map pair_of segs) → e ≡ d ++ flat_map row_bytes (map dict_row dicts) → e ≡ head_of (contents_by root segs dicts)
unfolding head_of
head-is root segs dicts a b d e ea eb ed ee =
    ee
    ∙ ap (λ z. z ++ flat_map row_bytes (map dict_row dicts))
    (ed ∙ ap (λ z. z ++ flat_map pair_bytes (map pair_of segs)) (eb ∙ ap₂ (λ (z : List ℕ) (n : ℕ). z ++ flat_map number_bytes (length segs ∷ root ∷ n ∷ [])) ea (sym (length-map dicts dict_row))))

-- a head and the bytes of the segments
pub image-is : (c : ImageContents) → image_of c ≡ head_of c ++ image_body c.segs
unfolding head_of image_of
image-is c = refl

-- the nine numbers of a dictionary
pub row-numbers : (d : Dict) (m : ℕ) (h : Heads) → m ≡ method_number d.method → h ≡ heads_in d → flat_map number_bytes (m ∷ d.kind ∷ d.count % 4294967296 ∷ d.current.0 ∷ h.first.0 ∷ h.last.0 ∷ h.table.0 ∷ h.slots ∷ h.root.0 ∷ []) ≡ row_bytes (dict_row d)
row-numbers d m h em eh =
    ap (λ (z : ℕ). flat_map number_bytes (z ∷ d.kind ∷ d.count % 4294967296 ∷ d.current.0 ∷ h.first.0 ∷ h.last.0 ∷ h.table.0 ∷ h.slots ∷ h.root.0 ∷ [])) em
    ∙ ap (λ (z : List ℕ). number_bytes (method_number d.method) ++ (number_bytes d.kind ++ (z ++ flat_map number_bytes (d.current.0 ∷ h.first.0 ∷ h.last.0 ∷ h.table.0 ∷ h.slots ∷ h.root.0 ∷ [])))) (low-bytes d.count)
    ∙ ap (λ (z : Heads). flat_map number_bytes (method_number d.method ∷ d.kind ∷ d.count ∷ d.current.0 ∷ z.first.0 ∷ z.last.0 ∷ z.table.0 ∷ z.slots ∷ z.root.0 ∷ [])) eh

-- a head that was made, and the bytes of the segments, are the image
pub whole : (root : ℕ) (given segs : List Bytes) (dicts : List Dict) (piece items : List ℕ) → piece ≡ items → items ≡ head_of (contents_by root given dicts) → given ≡ segs → piece ++ image_body given ≡ image_of (contents_by root segs dicts)
whole root given segs dicts piece items same made e =
    ap (λ z. z ++ image_body given) (same ∙ made) ∙ sym (image-is (contents_by root given dicts)) ∙ ap (λ z. image_of (contents_by root z dicts)) e
