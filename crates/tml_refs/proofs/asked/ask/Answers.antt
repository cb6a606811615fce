use Rattle.std.proofs.lemmas.Result.{on_ok_weaker}
use Rattle.tml_refs.proofs.Referring.{asks_both}
use Rattle.tml_refs.proofs.asked.ask.Goals as goal

pub returns-in_ok-ask_where-in-Timex-2 : goal.returns-in_ok-ask_where-in-Timex-2
returns-in_ok-ask_where-in-Timex-2 c =
    rw c.in-Timex.is
    (on_ok_weaker c.ask_where-in-Timex-3.result
    (asks_both c.in-Timex.place _ _ _ _ _ (asks_both c.in-Timex.place _ _ _ _ _ c.in_ok-ask_where-in-Timex.ensures c.in_ok-ask_where-in-Timex-2.ensures))
    c.ask_where-in-Timex-3.ensures)

pub returns-in_ok-ask_for-in-Alink-2 : goal.returns-in_ok-ask_for-in-Alink-2
returns-in_ok-ask_for-in-Alink-2 c =
    rw c.in-Alink.is
    (on_ok_weaker c.ask_where-in-Alink.result
    (asks_both c.in-Alink.place _ _ _ _ _ (asks_both c.in-Alink.place _ _ _ _ _ c.in_ok-ask_for-in-Alink.ensures c.in_ok-ask_for-in-Alink-2.ensures))
    c.ask_where-in-Alink.ensures)

pub returns-in_ok-ask_where-in-Slink : goal.returns-in_ok-ask_where-in-Slink
returns-in_ok-ask_where-in-Slink c =
    rw c.in-Slink.is
    (on_ok_weaker c.ask_where-in-Slink-2.result
    (asks_both c.in-Slink.place _ _ _ _ _ (asks_both c.in-Slink.place _ _ _ _ _ c.in_ok-ask_for-in-Slink.ensures c.in_ok-ask_where-in-Slink.ensures))
    c.ask_where-in-Slink-2.ensures)
