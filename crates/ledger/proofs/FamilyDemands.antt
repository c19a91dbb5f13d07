-- What is promised of a category's family as a list.
use Rattle.std.proofs.Common.{ltb, sym, ◌∙◌, ltb-true, lt-ltb}
use mathlib.Core.Bool.{and-eq-true_iff}
use Rattle.ledger.specs.Method.{same_family}
use Rattle.ledger.specs.Store.{categories_of, category_of}
use Rattle.ledger.specs.Calls.{family_for, tally, family_tally}
use Rattle.ledger.specs.Demands.{FamilyListed, FamilySummed}
use Rattle.ledger.proofs.CallDemands.{family_iff, no_family}
use Rattle.ledger.proofs.Chosen.{chosen_none, chosen_has, chosen_upward}
use Rattle.ledger.proofs.NetDemands.{sum_chosen}

pub family_listed : FamilyListed
unfolding family_for
family_listed settings c = (
  chosen_upward (categories_of settings) _,
  λ b.
      let has = chosen_has (categories_of settings) (λ x. same_family (category_of settings c) (category_of settings x)) b in
      let family = family_iff (category_of settings c) (category_of settings b) in (
        λ e.
            let p = (and-eq-true_iff (ltb b (categories_of settings)) (same_family (category_of settings c) (category_of settings b))).0 (sym has ∙ e) in
            (ltb-true b (categories_of settings) p.0, family.0 p.1),
        λ p. has ∙ rw (lt-ltb b (categories_of settings) p.0, family.1 p.1),
      ),
  λ other. chosen_none (categories_of settings) _ (λ b low. no_family (category_of settings c) (category_of settings b) (λ s. other s.smart.0)),
)

pub family_summed : FamilySummed
unfolding family_for family_tally
family_summed settings meters readings date measure c j = sym (sum_chosen (categories_of settings) _ (λ b. tally settings meters readings date measure b j))
