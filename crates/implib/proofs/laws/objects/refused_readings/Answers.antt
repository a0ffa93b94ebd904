use Rattle.implib.proofs.Worked.Refused.{refused_names, refused_objects, refused_short_imports}
use Rattle.implib.proofs.laws.objects.refused_readings.Goals as goal

pub returns : goal.returns
returns c = record { objects = refused_objects; short_imports = refused_short_imports; names = refused_names }
