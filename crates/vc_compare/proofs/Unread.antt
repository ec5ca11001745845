-- What is left of a piece, once the cutter took some of it.
use Rattle.vc_base.proofs.Common.{◌≡◌, ℕ, ◌+◌, ◌-◌, ◌<◌, ◌≤◌, true, List, [], ◌∷◌, ◌++◌, length, take, drop, slice_range, Ok, IsTrue, sym, ap, ◌∙◌, subst, arith, drop_all, drop-drop, drop-take}
use Rattle.std.proofs.lemmas.List.Edits.{length-between}
use Rattle.vc_script.specs.declared.cutter.Cut.{Cut}
use Rattle.vc_script.specs.declared.cutter.Cut.TheVariants.{Whole, More, Bad}
use Rattle.vc_script.specs.Cutting.{Cutting, IsCutting}
use Rattle.vc_script.specs.Cutter.{result_of_feed}
use Rattle.vc_script.specs.Pieces.{FoundLines}
use Rattle.vc_script.proofs.Pieces.{Tells}
use Rattle.vc_compare.specs.Reading.{CanRead, CutsLine, IsOneMore, IsUsedUp, found_behind, is_line, unread_of}
use Rattle.vc_compare.specs.declared.lines.LineReader.{LineReader}
use Rattle.vc_compare.proofs.Fed.{Leaves, leaves, tells}

-- a part without its first bytes
pub part-drop : (xs : List ℕ) (from end used : ℕ) → used ≤ end - from → slice_range xs (from + used) end ≡ drop used (slice_range xs from end)
part-drop xs from end used within =
    ap (λ ys. take (end - (from + used)) ys) (sym (drop-drop used from xs))
    ∙ (sym (drop-take used (end - (from + used)) (drop from xs))
    ∙ ap (λ n. drop used (take n (drop from xs))) (omega (arith, within)))

module _ (r : LineReader) (next : Cutting) (used : ℕ) (can : CanRead r) where
  abbrev pub cut_off : LineReader
  cut_off = record { cutter = next; piece = r.piece; from = r.from + used; end = r.end }

  pub unread-size : length (unread_of r) ≡ r.end - r.from
  unread-size = length-between r.piece.items r.from r.end (omega (arith, can.within, can.room))

  unread-drop : used ≤ length (unread_of r) → unread_of cut_off ≡ drop used (unread_of r)
  unread-drop within = part-drop r.piece.items r.from r.end used (omega (arith, within, unread-size))

  tells-cuts : (cut : Cut) → used ≤ length (unread_of r) → Leaves cut next used r.cutter (unread_of r) → ((behind : List ℕ) → Tells cut next used r.cutter (unread_of r) behind) → CutsLine cut r cut_off
  tells-cuts Whole within left tells = λ behind.
      (tells behind).0 ∙ ap (λ xs. (let found : FoundLines = (next.count, Ok next.line) ∷ found_behind next (xs ++ behind) in found)) (sym (unread-drop within))
  tells-cuts More within left tells = λ behind.
      (tells behind).0
      ∙ ap (λ xs. found_behind next (xs ++ behind)) (sym (unread-drop within ∙ drop_all used (unread_of r) (omega (arith, left.1.1.0))))
  tells-cuts (Bad fault) within left tells = tells

  can-on : IsTrue next.is_open → IsCutting next → used ≤ length (unread_of r) → CanRead cut_off
  can-on is_open cutting within = record {
    is_open = is_open;
    cutting = cutting;
    ordered = omega (arith, within, unread-size, can.ordered);
    within = can.within;
    room = can.room;
  }

  module _ (cut : Cut) (within : used ≤ length (unread_of r)) (e : result_of_feed r.cutter (unread_of r) ≡ record { after = next; cut = cut; used = used }) where
    pub cuts : CutsLine cut r cut_off
    cuts = tells-cuts cut within (leaves r.cutter (unread_of r) next cut used e) (tells r.cutter (unread_of r) next cut used e can.cutting)

    pub cuts-whole : is_line cut ≡ true → IsOneMore r cut_off
    cuts-whole is = by cut is (leaves r.cutter (unread_of r) next cut used e) (tells r.cutter (unread_of r) next cut used e can.cutting []) where
      by : (c : Cut) → is_line c ≡ true → Leaves c next used r.cutter (unread_of r) → Tells c next used r.cutter (unread_of r) [] → IsOneMore r cut_off
      by Whole is left told = record { can = can-on (subst IsTrue (sym left.0) can.is_open) told.1.0 within; count = left.1 }
      by More is left told = absurd cc
      by (Bad fault) is left told = absurd cc

    pub cuts-more : cut ≡ More → 0 < used → IsUsedUp r cut_off
    cuts-more is some =
        let left = subst (λ c. Leaves c next used r.cutter (unread_of r)) is (leaves r.cutter (unread_of r) next cut used e) in
        let told = subst (λ c. Tells c next used r.cutter (unread_of r) []) is (tells r.cutter (unread_of r) next cut used e can.cutting []) in
        record {
          can = can-on (subst IsTrue (sym left.0) can.is_open) told.1 within;
          all = omega (arith, left.1.1.0, unread-size, can.ordered);
          count = left.1.0;
          more = omega (arith, left.1.1.1, some);
        }
