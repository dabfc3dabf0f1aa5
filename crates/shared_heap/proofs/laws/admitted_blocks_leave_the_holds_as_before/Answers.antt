use Rattle.shared_heap.proofs.Admitting.{as_before}
use Rattle.shared_heap.proofs.Unheld.{admitted_but, own_still}
use Rattle.shared_heap.proofs.laws.admitted_blocks_leave_the_holds_as_before.Goals as goal

pub returns-clause-exact : goal.returns-clause-exact
returns-clause-exact c = λ h new z id layout words agree is. as_before z id layout words is h new agree

pub returns-clause-but : goal.returns-clause-but
returns-clause-but c = λ h new z id layout words off own agree is. admitted_but z id layout words is h new off own agree

pub returns-clause-own : goal.returns-clause-own
returns-clause-own c = λ z id layout words own is. own_still z id layout words is own
