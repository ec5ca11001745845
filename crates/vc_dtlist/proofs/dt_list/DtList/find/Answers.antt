use Rattle.vc_dtlist.proofs.dt_list.DtList.find.Goals as goal

pub returns : goal.returns
returns g c = λ holders s. let found = c.seek.ensures holders s in record { first = found.first; steps = found.steps }
