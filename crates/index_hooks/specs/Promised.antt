-- What contracts see of a filter or of a documentation rule: its promise, and the callback that it asks.
pub record Promised (P C : Type 0) : Type 0 where
  pub promise : P
  pub callback : C
