use Rattle.vc_base.proofs.Common.{◌≡◌, Some, None, codes, sym, refl, ap, ◌∙◌, rules}
use Rattle.clap.specs.Words.{found_of, rows_of}
use Rattle.vc_words.specs.Words.{read_count, spelled}
use Rattle.vc_words.proofs.Matched.{asked_is, read_rows}
use Rattle.vc_words.proofs.read.asked.Goals as goal

pub returns-in_err-generate : goal.returns-in_err-generate
returns-in_err-generate c =
    let found = found_of c.args.matches.now in
    let generate = read_rows read_count (codes "gen") found c.get_str.result c.count_if_given.result c.get_str.ensures c.count_if_given.ensures in
    let none : c.count_if_given.result ≡ None = search rules in
    c.from_residual.ensures ∙ asked_is (rows_of found) _ _ _ _ refl refl (sym none ∙ generate) refl

pub returns-in_err-seed : goal.returns-in_err-seed
returns-in_err-seed c =
    let found = found_of c.args.matches.now in
    let generate = read_rows read_count (codes "gen") found c.get_str.result c.count_if_given.result c.get_str.ensures c.count_if_given.ensures in
    let seed = read_rows spelled (codes "seed") found c.get_str-2.result c.seed_if_given.result c.get_str-2.ensures c.seed_if_given.ensures in
    let some : c.count_if_given.result ≡ Some c.in_ok-generate.generate = search rules in
    let none : c.seed_if_given.result ≡ None = search rules in
    c.from_residual-in_err-seed.ensures ∙ asked_is (rows_of found) _ _ _ _ refl refl (sym some ∙ generate) (sym none ∙ seed)

pub returns : goal.returns
returns c =
    let found = found_of c.args.matches.now in
    let generate = read_rows read_count (codes "gen") found c.get_str.result c.count_if_given.result c.get_str.ensures c.count_if_given.ensures in
    let seed = read_rows spelled (codes "seed") found c.get_str-2.result c.seed_if_given.result c.get_str-2.ensures c.seed_if_given.ensures in
    let some : c.count_if_given.result ≡ Some c.in_ok-generate.generate = search rules in
    let number : c.seed_if_given.result ≡ Some c.in_ok-seed.seed = search rules in
    ap (λ n. Some (record { quiet = c.has_flag.result; stat = c.has_flag-2.result; generate = c.in_ok-generate.generate; seed = n })) c.unwrap_or.ensures
    ∙ asked_is (rows_of found) _ _ _ _ c.has_flag.ensures c.has_flag-2.ensures (sym some ∙ generate) (sym number ∙ seed)
