use Rattle.vc_dict.proofs.form.Form.last.Goals as goal

pub returns-in-Hash : goal.returns-in-Hash
returns-in-Hash g c = rw c.in-Hash.is (λ rules. c.last.ensures rules (g.C.Cells.blocks c.args.cells.now))
