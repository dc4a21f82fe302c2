-- A connection, message by message.
use Rattle.std.proofs.Common.{◌≡◌, ℕ, ◌+◌, ◌-◌, ◌^◌, ◌<◌, ◌≤◌, min, true, false, List, [], ◌∷◌, ◌++◌, length, take, Option, Some, Err, inl, inr, refl, sym, ap, subst, ◌∙◌, arith, append_assoc, append-nil, length-append}
use Rattle.std.proofs.Math.Seq.{take-append-add, take-length}
use Rattle.gd_names.specs.declared.sink.SinkFault.{SinkFault}
use Rattle.gd_names.specs.declared.sink.SinkFault.TheVariants as sink
use Rattle.gd_http.specs.WrittenReplies.{written_reply}
use Rattle.gd_item.specs.declared.reply.Reply.{Reply}
use Rattle.gd_item.specs.declared.request.Request.{Request}
use Rattle.gd_server.specs.Inboxes.{unread, IsReady, Heard, Silent}
use Rattle.gd_server.specs.Messages.{most_messages, Front, IsOpen, Behind, Counts, BeginsCounted}
use Rattle.gd_server.specs.Replies.{Says, Answers, texts, last_text}
use Rattle.gd_server.specs.Serving.{Gave, Sent, SentPart, SentAt, Replied, end_of, Serves}
use Rattle.gd_server.specs.declared.inbox.Inbox.{Inbox}
use Rattle.gd_server.specs.declared.inbox.Message.{Message}
use Rattle.gd_server.specs.declared.end.ServeEnd.{ServeEnd}
use Rattle.gd_server.specs.declared.end.ServeEnd.TheVariants.{Ended, Cut, BadMessage, Spent, ReadFault, WriteFault, Memory}
use Rattle.gd_server.proofs.Pieces.{gave_none, gave_more, all_more}
use Rattle.gd_server.proofs.Standing.{front_more, front_wider, front_within, one_more, answers_more, texts_more, begins_counted}

-- ---- what was sent

pub sent_none : (out : Option (List ℕ)) → Sent out out []
sent_none out = record { told = λ old at. at ∙ ap (λ (l : List ℕ). Some l) (sym (append-nil old)) }

pub sent_more : (o0 o1 o2 : Option (List ℕ)) (xs ys : List ℕ) → Sent o0 o1 xs → Sent o1 o2 ys → Sent o0 o2 (xs ++ ys)
sent_more o0 o1 o2 xs ys one two = record {
  told = λ old at. two.told (old ++ xs) (one.told old at) ∙ ap (λ (l : List ℕ). Some l) (append_assoc old xs ys);
}

pub part_more : (o0 o1 o2 : Option (List ℕ)) (xs ys : List ℕ) → Sent o0 o1 xs → SentPart o1 o2 ys → SentPart o0 o2 (xs ++ ys)
part_more o0 o1 o2 xs ys one two = record {
  told = λ old at.
      let rest = two.told (old ++ xs) (one.told old at) in (
        length xs + rest.0,
        rest.1 ∙ ap (λ (l : List ℕ). Some l) (append_assoc old xs (take rest.0 ys) ∙ ap (λ (l : List ℕ). old ++ l) (sym (take-append-add xs ys rest.0))),
      );
}

-- what is sent at an end, behind what was sent before
pub sent_at : (end due : ServeEnd) (o0 o1 o2 : Option (List ℕ)) (xs ys : List ℕ) → Sent o0 o1 xs → SentAt end due o1 o2 ys → SentAt end due o0 o2 (xs ++ ys)
sent_at Ended due o0 o1 o2 xs ys one two = (two.0, sent_more o0 o1 o2 xs ys one two.1)
sent_at Cut due o0 o1 o2 xs ys one two = (two.0, sent_more o0 o1 o2 xs ys one two.1)
sent_at (BadMessage place cause) due o0 o1 o2 xs ys one two = (two.0, sent_more o0 o1 o2 xs ys one two.1)
sent_at Spent due o0 o1 o2 xs ys one two = (two.0, sent_more o0 o1 o2 xs ys one two.1)
sent_at ReadFault due o0 o1 o2 xs ys one two = (two.0, sent_more o0 o1 o2 xs ys one two.1)
sent_at WriteFault due o0 o1 o2 xs ys one two = part_more o0 o1 o2 xs ys one two
sent_at Memory due o0 o1 o2 xs ys one two = part_more o0 o1 o2 xs ys one two

pub whole_part : (o0 o1 : Option (List ℕ)) (xs : List ℕ) → Sent o0 o1 xs → SentPart o0 o1 xs
whole_part o0 o1 xs sent = record { told = λ old at. (length xs, sent.told old at ∙ ap (λ (l : List ℕ). Some (old ++ l)) (sym (take-length xs))) }

-- ---- what stands behind the messages

pub behind_more : (end : ServeEnd) (l0 l1 : Option (List ℕ)) (read more : List ℕ) (place : ℕ) (rest : List ℕ) → Gave l0 l1 read → Behind l1 more place rest end → Behind l0 (read ++ more) place rest end
behind_more Ended l0 l1 read more place rest gave behind = (behind.0, all_more l0 l1 read more gave behind.1)
behind_more Cut l0 l1 read more place rest gave behind = (behind.0, all_more l0 l1 read more gave behind.1)
behind_more (BadMessage at cause) l0 l1 read more place rest gave behind = behind
behind_more Spent l0 l1 read more place rest gave behind = behind
behind_more ReadFault l0 l1 read more place rest gave behind = behind
behind_more WriteFault l0 l1 read more place rest gave behind = behind
behind_more Memory l0 l1 read more place rest gave behind = behind

pub counts_behind : (end : ServeEnd) (left : Option (List ℕ)) (read rest : List ℕ) (messages : List Message) → IsOpen read messages rest
    → Behind left read (min (length read - length rest) (2 ^ 64 - 1)) rest end → Counts left read messages end
counts_behind Ended left read rest messages before behind = inr (record { rest = rest; before = before; behind = behind })
counts_behind Cut left read rest messages before behind = record { rest = rest; before = before; behind = behind }
counts_behind (BadMessage place cause) left read rest messages before behind = record { rest = rest; before = before; behind = behind }
counts_behind Spent left read rest messages before behind = absurd behind
counts_behind ReadFault left read rest messages before behind = record { rest = rest; before = before; behind = behind }
counts_behind WriteFault left read rest messages before behind = absurd behind
counts_behind Memory left read rest messages before behind =
    let few = before.few in
    inl (record { rest = rest; front = before.front }, omega arith)

-- ---- message by message

-- So many messages, of which none asks to close, were read and answered; what is unread follows them.
pub record SoFar {A : Type 0} (Asks : A → A → Request → Reply → Type 0) (base : List ℕ) (left left_now : Option (List ℕ)) (before now : A) (out out_now : Option (List ℕ)) (inbox : Inbox) (count : ℕ) : Type 0 where
  pub read : List ℕ
  pub gave : Gave left left_now read
  pub messages : List Message
  pub many : length messages ≡ count
  pub front : Front read messages (unread inbox)
  pub ready : IsReady inbox.reader
  pub place : inbox.reader.place ≡ min (length read - length (unread inbox)) (2 ^ 64 - 1)
  pub replies : List Reply
  pub answered : Answers Asks before messages replies now
  pub sent : Sent out out_now (texts base replies)

module _ {A : Type 0} (Asks : A → A → Request → Reply → Type 0) (base : List ℕ) where
  pub so_far_none : (left : Option (List ℕ)) (a : A) (out : Option (List ℕ)) (inbox : Inbox) → IsReady inbox.reader → unread inbox ≡ [] → inbox.reader.place ≡ 0
      → SoFar Asks base left left a a out out inbox 0
  so_far_none left a out inbox ready nothing place = record {
    read = [];
    gave = gave_none left;
    messages = [];
    many = refl;
    front = sym nothing;
    ready = ready;
    place = omega (arith, place);
    replies = [];
    answered = refl;
    sent = sent_none out;
  }

  -- the next message stands behind those that were answered
  pub next_front : (l0 l1 l2 : Option (List ℕ)) (a b : A) (o0 o1 : Option (List ℕ)) (old new : Inbox) (count : ℕ) (message : Message) (so_far : SoFar Asks base l0 l1 a b o0 o1 old count)
      (heard : Heard l1 l2 old new message) → Front (so_far.read ++ heard.read) so_far.messages (heard.first ++ unread new)
  next_front l0 l1 l2 a b o0 o1 old new count message so_far heard =
      subst (λ (l : List ℕ). Front (so_far.read ++ heard.read) so_far.messages l) heard.parts (front_wider so_far.messages so_far.read (unread old) heard.read so_far.front)

  place_after : (read rest more first behind : List ℕ) (old new : ℕ) → length rest ≤ length read → rest ++ more ≡ first ++ behind → old ≡ min (length read - length rest) (2 ^ 64 - 1)
      → new ≡ min (old + length first) (2 ^ 64 - 1) → new ≡ min (length (read ++ more) - length behind) (2 ^ 64 - 1)
  place_after read rest more first behind old new within parts is after =
      omega (arith, ap length parts, length-append rest more, length-append first behind, length-append read more)

  pub so_far_more : (l0 l1 l2 : Option (List ℕ)) (a b c : A) (o0 o1 o2 : Option (List ℕ)) (old new : Inbox) (count : ℕ) (message : Message) (reply : Reply)
      → SoFar Asks base l0 l1 a b o0 o1 old count → Heard l1 l2 old new message → message.closes ≡ false → Says Asks b c message.asks reply → Sent o1 o2 (written_reply base reply)
      → SoFar Asks base l0 l2 a c o0 o2 new (count + 1)
  so_far_more l0 l1 l2 a b c o0 o1 o2 old new count message reply so_far heard goes says sent = record {
    read = so_far.read ++ heard.read;
    gave = gave_more l0 l1 l2 so_far.read heard.read so_far.gave heard.gave;
    messages = so_far.messages ++ message ∷ [];
    many = one_more so_far.messages message ∙ ap (λ (n : ℕ). n + 1) so_far.many;
    front = front_more so_far.messages (so_far.read ++ heard.read) (heard.first ++ unread new) heard.first (unread new) message
        (next_front l0 l1 l2 a b o0 o1 old new count message so_far heard) refl heard.is goes;
    ready = heard.ready;
    place = place_after so_far.read (unread old) heard.read heard.first (unread new) old.reader.place new.reader.place
        (front_within so_far.messages so_far.read (unread old) so_far.front) heard.parts so_far.place heard.place;
    replies = so_far.replies ++ reply ∷ [];
    answered = answers_more Asks so_far.messages so_far.replies a b c message reply so_far.answered says;
    sent = subst (λ (l : List ℕ). Sent o0 o2 l) (sym (texts_more base so_far.replies reply)) (sent_more o0 o1 o2 (texts base so_far.replies) (written_reply base reply) so_far.sent sent);
  }

  -- ---- the ends

  -- nothing was read
  pub serves_nothing : (left : Option (List ℕ)) (a : A) (out : Option (List ℕ)) → Serves Asks base left left a a out out Memory
  serves_nothing left a out = record {
    read = [];
    gave = gave_none left;
    messages = [];
    due = Memory;
    counts = inl (record { rest = []; front = refl }, omega arith);
    replies = [];
    answered = refl;
    sent = whole_part out out [] (sent_none out);
  }

  -- no message came
  pub serves_silent : (l0 l1 l2 : Option (List ℕ)) (a b : A) (o0 o1 o2 : Option (List ℕ)) (inbox : Inbox) (count : ℕ) (due end : ServeEnd) → SoFar Asks base l0 l1 a b o0 o1 inbox count
      → count < most_messages → Silent l1 l2 inbox due → SentAt end due o1 o2 (last_text base due) → Serves Asks base l0 l2 a b o0 o2 end
  serves_silent l0 l1 l2 a b o0 o1 o2 inbox count due end so_far few silent sent =
      let read = so_far.read ++ silent.read in
      let rest = unread inbox ++ silent.read in
      let within = front_within so_far.messages so_far.read (unread inbox) so_far.front in
      let before : IsOpen read so_far.messages rest = record { front = front_wider so_far.messages so_far.read (unread inbox) silent.read so_far.front; few = omega (arith, so_far.many) } in
      let place : inbox.reader.place ≡ min (length read - length rest) (2 ^ 64 - 1) =
      place_after so_far.read (unread inbox) silent.read [] rest inbox.reader.place inbox.reader.place within refl so_far.place (omega (arith, so_far.place)) in
      let behind : Behind l0 read (min (length read - length rest) (2 ^ 64 - 1)) rest due =
      subst (λ (n : ℕ). Behind l0 read n rest due) place (behind_more due l0 l1 so_far.read silent.read inbox.reader.place rest so_far.gave silent.behind) in
      record {
        read = read;
        gave = gave_more l0 l1 l2 so_far.read silent.read so_far.gave silent.gave;
        messages = so_far.messages;
        due = due;
        counts = counts_behind due l0 read rest so_far.messages before behind;
        replies = so_far.replies;
        answered = so_far.answered;
        sent = sent_at end due o0 o1 o2 (texts base so_far.replies) (last_text base due) so_far.sent sent;
      }

  -- the next message is one of those that count
  next_counts : (l0 l1 l2 : Option (List ℕ)) (a b : A) (o0 o1 : Option (List ℕ)) (old new : Inbox) (count : ℕ) (message : Message) (so_far : SoFar Asks base l0 l1 a b o0 o1 old count)
      (heard : Heard l1 l2 old new message) → count < most_messages → BeginsCounted (so_far.read ++ heard.read) (so_far.messages ++ message ∷ [])
  next_counts l0 l1 l2 a b o0 o1 old new count message so_far heard few =
      begins_counted (so_far.read ++ heard.read) heard.first (unread new) so_far.messages message (next_front l0 l1 l2 a b o0 o1 old new count message so_far heard) (omega (arith, so_far.many)) heard.is

  -- a message was asked, and its reply was not sent whole
  serves_part : (l0 l1 l2 : Option (List ℕ)) (a b c : A) (o0 o1 o2 : Option (List ℕ)) (old new : Inbox) (count : ℕ) (message : Message) (reply : Reply) (end : ServeEnd)
      → ((read : List ℕ) (messages : List Message) → BeginsCounted read messages → Counts l0 read messages end)
      → ((text : List ℕ) → SentPart o0 o2 text → SentAt end end o0 o2 (text ++ last_text base end))
      → SoFar Asks base l0 l1 a b o0 o1 old count → count < most_messages → Heard l1 l2 old new message → Says Asks b c message.asks reply → SentPart o1 o2 (written_reply base reply)
      → Serves Asks base l0 l2 a c o0 o2 end
  serves_part l0 l1 l2 a b c o0 o1 o2 old new count message reply end counts sent_so so_far few heard says part = record {
    read = so_far.read ++ heard.read;
    gave = gave_more l0 l1 l2 so_far.read heard.read so_far.gave heard.gave;
    messages = so_far.messages ++ message ∷ [];
    due = end;
    counts = counts (so_far.read ++ heard.read) (so_far.messages ++ message ∷ []) (next_counts l0 l1 l2 a b o0 o1 old new count message so_far heard few);
    replies = so_far.replies ++ reply ∷ [];
    answered = answers_more Asks so_far.messages so_far.replies a b c message reply so_far.answered says;
    sent = sent_so (texts base (so_far.replies ++ reply ∷ []))
        (subst (λ (l : List ℕ). SentPart o0 o2 l) (sym (texts_more base so_far.replies reply)) (part_more o0 o1 o2 (texts base so_far.replies) (written_reply base reply) so_far.sent part));
  }

  and_nothing : (o0 o1 : Option (List ℕ)) (text : List ℕ) → SentPart o0 o1 text → SentPart o0 o1 (text ++ [])
  and_nothing o0 o1 text part = subst (λ (l : List ℕ). SentPart o0 o1 l) (sym (append-nil text)) part

  pub serves_broken : (T : Type 0) (l0 l1 l2 : Option (List ℕ)) (a b c : A) (o0 o1 o2 : Option (List ℕ)) (old new : Inbox) (count : ℕ) (message : Message) (fault : SinkFault)
      → SoFar Asks base l0 l1 a b o0 o1 old count → count < most_messages → Heard l1 l2 old new message → Replied Asks base b c message.asks o1 o2 {T = T} (Err fault)
      → Serves Asks base l0 l2 a c o0 o2 (end_of fault)
  serves_broken T l0 l1 l2 a b c o0 o1 o2 old new count message sink.Failed so_far few heard replied =
      serves_part l0 l1 l2 a b c o0 o1 o2 old new count message replied.reply WriteFault (λ read messages begins. begins) (and_nothing o0 o2) so_far few heard replied.says
      (record { told = replied.wrote.err })
  serves_broken T l0 l1 l2 a b c o0 o1 o2 old new count message sink.Memory so_far few heard replied =
      serves_part l0 l1 l2 a b c o0 o1 o2 old new count message replied.reply Memory (λ read messages begins. begins) (and_nothing o0 o2) so_far few heard replied.says
      (record { told = replied.wrote.err })

  -- a message asked to close
  pub serves_closed : (l0 l1 l2 : Option (List ℕ)) (a b c : A) (o0 o1 o2 : Option (List ℕ)) (old new : Inbox) (count : ℕ) (message : Message) (reply : Reply)
      → SoFar Asks base l0 l1 a b o0 o1 old count → count < most_messages → Heard l1 l2 old new message → message.closes ≡ true → Says Asks b c message.asks reply
      → Sent o1 o2 (written_reply base reply) → Serves Asks base l0 l2 a c o0 o2 Ended
  serves_closed l0 l1 l2 a b c o0 o1 o2 old new count message reply so_far few heard closes says sent = record {
    read = so_far.read ++ heard.read;
    gave = gave_more l0 l1 l2 so_far.read heard.read so_far.gave heard.gave;
    messages = so_far.messages ++ message ∷ [];
    due = Ended;
    counts = inl (record {
      earlier = so_far.messages;
      last = message;
      are = refl;
      first = heard.first;
      rest = unread new;
      front = record { front = next_front l0 l1 l2 a b o0 o1 old new count message so_far heard; few = omega (arith, so_far.many) };
      is = heard.is;
      closes = closes;
    });
    replies = so_far.replies ++ reply ∷ [];
    answered = answers_more Asks so_far.messages so_far.replies a b c message reply so_far.answered says;
    sent = (
      refl,
      subst (λ (l : List ℕ). Sent o0 o2 l) (sym (append-nil (texts base (so_far.replies ++ reply ∷ [])) ∙ texts_more base so_far.replies reply))
          (sent_more o0 o1 o2 (texts base so_far.replies) (written_reply base reply) so_far.sent sent),
    );
  }
