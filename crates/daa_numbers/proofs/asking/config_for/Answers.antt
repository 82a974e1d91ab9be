use Rattle.std.proofs.Common.{◌∙◌, sym, subst, rules, w32, FitsSigned}
use Rattle.std.proofs.lemmas.Int.{to_z-of_z}
use Rattle.daa_numbers.specs.Inside.Codes.{IsOfStates}
use Rattle.daa_numbers.specs.Numbers.{settings_by}
use Rattle.daa_numbers.specs.Refusal.{own_refusal}
use Rattle.daa_numbers.specs.declared.refusal.Refusal.TheVariants as refuses
use Rattle.daa_numbers.proofs.RefusalLemmas.{config_first}
use Rattle.daa_numbers.proofs.asking.config_for.Goals as goal

pub returns-in-Err-clause-refused : goal.returns-in-Err-clause-refused
returns-in-Err-clause-refused c =
    let fits : FitsSigned w32 c.fault_code.result = search rules in let same = to_z-of_z w32 _ fits in
    record {
      is = (
        refuses.Config c.in-Err.fault,
        config_first (settings_by c.args.config.now) c.in-Err.fault (own_refusal c.args.own.now) c.in-Err.ensures.refused,
        sym (same ∙ c.fault_code.ensures.value),
      );
      some = λ is. c.fault_code.ensures.some (sym same ∙ is);
      others = subst IsOfStates (sym same) c.fault_code.ensures.others;
    }
