use Rattle.vc_base.proofs.Common.{◌≡◌, OnOk, map, sym, ap, subst}
use Rattle.vc_script.specs.declared.first_word.FirstWord.TheVariants.{Region, Dictionary}
use Rattle.vc_script.specs.Answer.{answer_of}
use Rattle.vc_script.specs.FirstWords.{region_spelling, dictionary_spelling}
use Rattle.vc_script.proofs.FirstRows.{found-region, found-own, found-none}
use Rattle.vc_script.proofs.table.answer_in.Goals as goal

pub returns-in-Some-Region : goal.returns-in-Some-Region
returns-in-Some-Region c =
    let word = c.in-Some-Region.word in
    let spelled : c.args.first.now ≡ region_spelling word = (c.in-Some-Region.ensures (Region word)).0 (cc) in
    subst (λ wanted. OnOk c.region_answer.result (c.region_answer.new.asked ≡ answer_of wanted)) (found-region c.args.tool c.args.first.now (map (λ w. w.now) c.args.others.now) word spelled) c.region_answer.ensures

pub returns-in-Some-Dictionary : goal.returns-in-Some-Dictionary
returns-in-Some-Dictionary c =
    let word = c.in-Some-Dictionary.word in
    let spelled : c.args.first.now ≡ dictionary_spelling word = (c.in-Some-Dictionary.ensures (Dictionary word)).0 (cc) in
    subst (λ wanted. OnOk c.own_answer.result (c.own_answer.new.asked ≡ answer_of wanted)) (found-own c.args.tool c.args.first.now (map (λ w. w.now) c.args.others.now) word spelled) c.own_answer.ensures

pub returns-in-None : goal.returns-in-None
returns-in-None c =
    ap answer_of (sym (found-none c.args.tool c.args.first.now (map (λ w. w.now) c.args.others.now) (λ w spelled. cc ((c.in-None.ensures w).1 spelled))))
