use Rattle.vc_base.proofs.Common.{◌≡◌, ◌+◌, [], ◌∷◌, ◌++◌, map, length, take, true, get_or, slice_range, sym, ap, ◌∙◌, arith, map_push, length-map, eqb-true}
use Rattle.vc_script.specs.Words.{is_blank}
use Rattle.vc_script.proofs.Cuts.{words_from, words_from-ends, words_from-full}
use Rattle.vc_script.proofs.word.put_words.Goals as goal

pub returns-then-is_full : goal.returns-then-is_full
returns-then-is_full c =
    let line = c.args.line.now in
    let i = c.loop-i.i in
    let found = c.push.new.self.items in
    let e : map (λ w. w.now) found ≡ map (λ w. w.now) c.loop-i.found.items ++ slice_range line c.loop-i.start i ∷ [] = ap (map (λ w. w.now)) c.push.ensures.items ∙ map_push _ _ _ in
    let blank : is_blank (get_or line i 0) ≡ true = cc in
    let six : length (map (λ w. w.now) found) ≡ 6 = length-map found (λ w. w.now) ∙ eqb-true _ _ (sym c.if-is_full.ensures.value) in
    sym
    (ap (take 6) (c.loop-i.invariant.words ∙ words_from-ends _ line c.loop-i.start i c.if-start-i.true (omega arith) blank ∙ ap (λ done. words_from done line (i + 1) (i + 1)) (sym e))
    ∙ words_from-full (map (λ w. w.now) found) line (i + 1) (i + 1) 6 six)
