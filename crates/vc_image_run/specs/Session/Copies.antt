-- Copies of dictionaries.
use Rattle.vc_dict.specs.declared.dict.Dict.{Dict}
use Rattle.vc_dict.specs.Parts.{dict_by, heads_in}

-- a dictionary made of the numbers of another one
abbrev pub copy_of : Dict → Dict
copy_of d = dict_by d.method d.kind d.count d.current (heads_in d)
