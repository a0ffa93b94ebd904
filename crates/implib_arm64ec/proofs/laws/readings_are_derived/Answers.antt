use Rattle.implib_arm64ec.specs.Reading.{qualified_name}
use Rattle.implib_arm64ec.proofs.Derived.{derived_read, read_derives, stops_derives_none}
use Rattle.implib_arm64ec.proofs.laws.readings_are_derived.Goals as goal

pub returns : goal.returns
returns c = record {
  derived = λ text place e. read_derives text qualified_name place e;
  whole = λ text rest d. derived_read qualified_name text rest d;
  none = λ text place e other d. stops_derives_none text qualified_name place e other d;
}
