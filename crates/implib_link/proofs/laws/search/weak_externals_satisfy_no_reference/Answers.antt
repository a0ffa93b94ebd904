use Rattle.implib_link.proofs.Search.Plainly.{leaves, left, libraries_plain, libraries_weak, plain, still, weak}
use Rattle.implib_link.proofs.laws.search.weak_externals_satisfy_no_reference.Goals as goal

pub returns : goal.returns
returns c = record {
  plain = plain;
  weak = weak;
  libraries_plain = λ machine libraries own taken archive. libraries_plain machine libraries archive own taken;
  libraries_weak = λ machine libraries own taken archive. libraries_weak machine libraries archive own taken;
  still = still;
  leaves = leaves;
  left = λ reads own taken name none. left reads own none taken name;
}
