use Rattle.vc_base.proofs.Common.{◌≡◌, ℕ, ◌-◌, List, [], ◌∷◌, ◌++◌, drop, take, ◌∙◌, append_assoc, arith, codes, decimal, length-drop, subst, take_all}
use Rattle.vc_seg.specs.declared.stat.Stat.{Stat}
use Rattle.vc_script.specs.Print.{stat_numbers}
use Rattle.vc_script.specs.Puts.{Puts}
use Rattle.vc_script.proofs.print_lines.put_stats.Goals as goal

-- eight numbers with their labels, each before those behind it
module _ (end n1 n2 n3 n4 n5 n6 n7 n8 t1 t2 t3 t4 t5 t6 t7 t8 : List ℕ) (s : Stat) where
  all-before : end ≡ 10 ∷ []
      → n1 ≡ decimal s.extent ++ end
      → t1 ≡ codes " extent " ++ n1
      → n2 ≡ decimal s.segs ++ t1
      → t2 ≡ codes " segs " ++ n2
      → n3 ≡ decimal s.mfree ++ t2
      → t3 ≡ codes " mfree " ++ n3
      → n4 ≡ decimal s.mbusy ++ t3
      → t4 ≡ codes " mbusy " ++ n4
      → n5 ≡ decimal s.sfree ++ t4
      → t5 ≡ codes " sfree " ++ n5
      → n6 ≡ decimal s.sbusy ++ t5
      → t6 ≡ codes " sbusy " ++ n6
      → n7 ≡ decimal s.free ++ t6
      → t7 ≡ codes " free " ++ n7
      → n8 ≡ decimal s.busy ++ t7
      → t8 ≡ codes "busy " ++ n8
      → t8 ≡ stat_numbers s ++ 10 ∷ []
  all-before e d1 l1 d2 l2 d3 l3 d4 l4 d5 l5 d6 l6 d7 l7 d8 l8 =
      rw (l8, d8, l7, d7, l6, d6, l5, d5, l4, d4, l3, d3, l2, d2, l1, d1, e) (simp append_assoc)

pub returns : goal.returns
returns c =
    let at = c.text_before-at-9.result in
    let buf = c.text_before-at-9.new.buf in
    let rest : take (224 - at) (drop at buf) ≡ drop at buf = take_all (224 - at) (drop at buf) (omega (arith, length-drop at buf)) in
    subst (Puts c.args.line.now.items c.put.new.line.items c.put.result)
    (rest ∙ all-before _ _ _ _ _ _ _ _ _ _ _ _ _ _ _ _ _ c.args.stat.now
    c.text_before-at.ensures.written
    c.number_before-at.ensures.written
    c.text_before-at-2.ensures.written
    (rw c.from.ensures at c.number_before-at-2.ensures.written)
    c.text_before-at-3.ensures.written
    c.number_before-at-3.ensures.written
    c.text_before-at-4.ensures.written
    c.number_before-at-4.ensures.written
    c.text_before-at-5.ensures.written
    c.number_before-at-5.ensures.written
    c.text_before-at-6.ensures.written
    c.number_before-at-6.ensures.written
    c.text_before-at-7.ensures.written
    c.number_before-at-7.ensures.written
    c.text_before-at-8.ensures.written
    c.number_before-at-8.ensures.written
    c.text_before-at-9.ensures.written)
    c.put.ensures
