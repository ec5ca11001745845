use Rattle.vc_base.proofs.Common.{◌==◌, sym, ◌∙◌, subst, Bor, rules, AlwaysYields, TakesFirst, values_of}
use Rattle.std.specs.Map.Iter.{deref}
use Rattle.std.proofs.lemmas.Iterator.{YieldsList}
use Rattle.std.proofs.lemmas.Iterator.Search.{any_from_yields_List}
use Rattle.vc_base.proofs.Quantifiers.{any-map}
use Rattle.vc_commands.specs.declared.dict.entry.DictEntry.{DictEntry}
use Rattle.vc_views.specs.Dicts.{number_in}
use Rattle.vc_views.proofs.MapValues.{values-yield}
use Rattle.vc_views.proofs.numbers.has_number.Goals as goal
use borrow.Author.Tests.{tests}

pub returns : goal.returns
returns c =
    let n = c.args.number in
    let es = c.args.dicts.now.entries in
    let chain : YieldsList (TakesFirst (deref {X = DictEntry})) (λ (y : Bor DictEntry). y.now) c.values.result (values_of es) =
    record { runs = subst (λ s. AlwaysYields (TakesFirst (deref {X = DictEntry})) (λ (y : Bor DictEntry). y.now) s (values_of es)) (sym c.values.ensures.rest) (values-yield (values_of es)) } in
    any_from_yields_List {v = λ (y : Bor DictEntry). y.now} (λ (e : DictEntry). e.number == n) _ _ c.any.result c.any.ensures.ran chain (λ x b q k. search (rules, tests))
    ∙ any-map (λ e. e.1) (λ (e : DictEntry). e.number == n) es ∙ sym (any-map number_in (λ m. m == n) es)
