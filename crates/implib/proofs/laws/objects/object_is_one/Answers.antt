use Rattle.implib.proofs.laws.objects.object_is_one.Goals as goal

pub returns : goal.returns
returns c = λ bytes a b first second. cc
