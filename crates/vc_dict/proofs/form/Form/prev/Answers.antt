use Rattle.vc_dict.proofs.form.Form.prev.Goals as goal

pub returns-in-Hash : goal.returns-in-Hash
returns-in-Hash g c = rw c.in-Hash.is c.prev.ensures
