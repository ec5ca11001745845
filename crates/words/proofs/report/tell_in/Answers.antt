use Rattle.vc_base.proofs.Common.{Ok, sym, subst}
use Rattle.vc_store.specs.Collections.{contents}
use Rattle.vc_store.specs.declared.put.Put.{Put}
use Rattle.words.specs.Counting.{Counts}
use Rattle.words.specs.Text.{words_in}
use Rattle.words.proofs.Once.{long-each, reported-in}
use Rattle.words.proofs.report.tell_in.Goals as goal

pub returns-in-Ok-WrongSize-clause-too_long : goal.returns-in-Ok-WrongSize-clause-too_long
returns-in-Ok-WrongSize-clause-too_long g c _ =
    long-each (words_in c.args.text.now) (contents c.args.set.now).objects
    (subst (λ (put : Put). Counts (Ok put) (words_in c.args.text.now) (contents c.args.set.now) (contents c.count_words.new.set)) c.in-Ok-WrongSize.field-0-is
    c.in-Ok-WrongSize.ensures.counts)

pub returns-in-Ok-put_lines-clause-ok : goal.returns-in-Ok-put_lines-clause-ok
returns-in-Ok-put_lines-clause-ok g c =
    reported-in c.in-Ok.put c.args.text.now c.new-lines.result.items c.put_lines.new.lines.items (contents c.args.set.now) (contents c.count_words.new.set)
    c.in-Ok.ensures.most c.requires.empty (sym c.if-is_there.ensures) c.in-Ok.ensures.counts c.new-lines.ensures.items c.in-Ok-put_lines.ensures.put
