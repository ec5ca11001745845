use Rattle.vc_base.proofs.Common.{ℕ, ◌+◌, ◌<◌, ◌≤◌, false, List, [], length, sym, ap, ◌∙◌, arith, rules}
use Rattle.vc_script.specs.declared.line_fault.LineFault.TheVariants.{LineTooLong}
use Rattle.vc_script.specs.declared.cutter.Cut.TheVariants.{Whole, More, Bad}
use Rattle.vc_script.specs.contracts.cutter.LineCutter.{the_view}
use Rattle.vc_script.specs.Judged.{line_limit}
use Rattle.vc_script.specs.Lines.{without_cr}
use Rattle.vc_script.specs.Cutting.{Cutting}
use Rattle.vc_script.specs.Cutter.{Fed, result_of_feed}
use Rattle.vc_script.proofs.Feeding.{fed-late, fed-more, fed-whole, fed-long}
use Rattle.vc_script.proofs.cutter.LineCutter.feed.Goals as goal

pub returns-then-self-eq-LAST_NUMBER-clause-fed : goal.returns-then-self-eq-LAST_NUMBER-clause-fed
returns-then-self-eq-LAST_NUMBER-clause-fed c =
    ap (λ s. result_of_feed s c.args.piece.now) (sym c.self.view_is)
    ∙ fed-late (the_view c.self.inside) c.args.piece.now (search rules) (search rules)

pub returns-then-n-piece-clause-fed : goal.returns-then-n-piece-clause-fed
returns-then-n-piece-clause-fed c =
    let s : Cutting = the_view c.self.inside in
    let piece = c.args.piece.now in
    let n = c.plain_count-n.result in
    let made : List ℕ → Fed = λ kept. record { after = record { kept = kept; count = c.self.inside.count; line = c.self.inside.line.items; is_open = c.self.inside.is_open }; cut = More; used = n } in
    ap (λ t. result_of_feed t piece) (sym c.self.view_is)
    ∙ (fed-more s piece n c.plain_count-n.ensures.within (search rules) (omega arith) c.plain_count-n.ensures.plain (sym c.if-n-piece.true)
    ∙ ap made (sym c.append.ensures.items))

pub returns-clause-fed : goal.returns-clause-fed
returns-clause-fed c =
    let s : Cutting = the_view c.self.inside in
    let piece = c.args.piece.now in
    let n = c.plain_count-n.result in
    let made : List ℕ → List ℕ → Fed = λ kept line. record { after = record { kept = kept; count = c.self.inside.count + 1; line = line; is_open = c.self.inside.is_open }; cut = Whole; used = n + 1 } in
    let within : n < length piece = omega (arith, c.plain_count-n.ensures.within, c.if-n-piece.false) in
    ap (λ t. result_of_feed t piece) (sym c.self.view_is)
    ∙ (fed-whole s piece n c.plain_count-n.ensures.within (search rules) (omega arith) c.plain_count-n.ensures.plain within c.if-piece-n-ne10.false
    ∙ (ap (λ bytes. made [] (without_cr bytes)) (sym c.append.ensures.items)
    ∙ (ap (λ bytes. made bytes (without_cr c.append.new.bytes.items)) (sym c.end_line.ensures.kept)
    ∙ ap (made c.end_line.new.kept.items) (sym c.end_line.ensures.line))))

pub returns-then-piece-n-ne10-clause-fed : goal.returns-then-piece-n-ne10-clause-fed
returns-then-piece-n-ne10-clause-fed c =
    let s : Cutting = the_view c.self.inside in
    let piece = c.args.piece.now in
    let n = c.plain_count-n.result in
    let made : List ℕ → Fed = λ kept. record { after = record { kept = kept; count = c.self.inside.count; line = c.self.inside.line.items; is_open = false }; cut = Bad LineTooLong; used = n + 1 } in
    let within : n < length piece = omega (arith, c.plain_count-n.ensures.within, c.if-n-piece.false) in
    let full : line_limit ≤ length c.self.inside.kept.items + n = search rules in
    ap (λ t. result_of_feed t piece) (sym c.self.view_is)
    ∙ (fed-long s piece n c.plain_count-n.ensures.within (search rules) (omega arith) c.plain_count-n.ensures.plain within (omega (arith, c.plain_count-n.ensures.few, c.len.ensures, full)) c.if-piece-n-ne10.true
    ∙ ap made (sym c.append.ensures.items))
