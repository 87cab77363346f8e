-- A list that is made from the front, an item at a time
pub mod FromPartsLemmas
